use Rattle.std.proofs.Common.{List, ℕ, ◌++◌, ◌∷◌, [], ◌∙◌, ap}
use Rattle.std.proofs.lemmas.List.{take_all}
use Rattle.jc_facts.specs.Names.{Bytes}
use Rattle.jc_index.specs.steps.Order.{names_at}
use Rattle.jc_index.proofs.Places.{one_more}
use Rattle.jc_index.proofs.order.places.Goals as goal

pub loop-at-preserved : goal.loop-at-preserved
loop-at-preserved c =
    let before : List (Bytes × ℕ) = c.loop-at.places.items in
    one_more c.args.classes.now before c.push.new.self.items c.loop-at.at c.index-classes-at.result c.loop-at-test.true c.index-classes-at.is
    (◌∙◌ {A = List (Bytes × ℕ)} c.in_ok-push.ensures.items (ap (λ (name : Bytes). before ++ (name, c.loop-at.at) ∷ []) c.as_bytes.ensures)) c.loop-at.invariant

pub returns-clause-names : goal.returns-clause-names
returns-clause-names c = c.loop-at.invariant.0 ∙ ap names_at (take_all c.loop-at.at c.args.classes.now c.loop-at-test.false)
