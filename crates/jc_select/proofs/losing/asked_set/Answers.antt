use Rattle.std.proofs.Common.{◌≡◌, ◌<◌, ◌||◌, ◌==◌, ℕ, true, List, refl, sym, subst, ap, ◌∙◌}
use Rattle.std.specs.List.{All, list_any}
use Rattle.std.proofs.lemmas.List.Folds.{list_any_at}
use Rattle.jc_dropped.specs.Dropped.{asks_for}
use Rattle.jc_facts.specs.world.World.{size}
use Rattle.jc_index.specs.Ids.{name_at}
use Rattle.std.proofs.lemmas.Bool.{eq-eqb}
use Rattle.jc_select.specs.steps.Losing.{IsPut, is_found}
use Rattle.jc_select.proofs.LostRows.{asked_all}
use Rattle.jc_select.proofs.SetsOf.{set_of_none, set_of_more}
use Rattle.jc_select.proofs.losing.asked_set.Goals as goal

pub can_ask-wanted-requires-clause-of : goal.can_ask-wanted-requires-clause-of
can_ask-wanted-requires-clause-of c =
    let w : All (λ n. n < size c.args.sides.now.old) c.args.row.now = subst (λ (is : List ℕ). All (λ n. n < size c.args.sides.now.old) is) (sym c.requires.row) (c.requires.lost.rows.each c.args.id c.requires.id).within in
    subst (λ n. n < size c.args.sides.now.old) (sym c.of-item.is) (w c.loop-of.of-index c.of-item.result c.loop-of-test.true)

pub can_ask-wanted-requires-clause-row : goal.can_ask-wanted-requires-clause-row
can_ask-wanted-requires-clause-row c =
    subst (λ (is : List ℕ). list_any (λ i. i == c.of-item.result) is ≡ true) c.requires.row
    (list_any_at (λ i. i == c.of-item.result) c.args.row.now c.loop-of.of-index c.of-item.result c.loop-of-test.true (ap (λ i. i == c.of-item.result) (sym c.of-item.is) ∙ eq-eqb c.of-item.result c.of-item.result refl))

pub loop-of-init : goal.loop-of-init
loop-of-init c = set_of_none (λ j. asks_for c.args.sides.now.old c.args.sides.now.new (name_at c.args.sides.now.old c.args.id) (name_at c.args.sides.now.old j)) c.args.row.now c.new-set.result c.new-set.ensures.ordered (λ q. rw c.new-set.ensures.empty refl)

pub loop-of-preserved : goal.loop-of-preserved
loop-of-preserved c =
    set_of_more (λ j. asks_for c.args.sides.now.old c.args.sides.now.new (name_at c.args.sides.now.old c.args.id) (name_at c.args.sides.now.old j)) c.args.row.now c.loop-of.of-index c.of-item.result c.loop-of.set c.put_if.new.set
    c.loop-of-test.true c.of-item.is (subst (λ b. IsPut c.of-item.result b c.loop-of.set c.put_if.new.set) c.can_ask-wanted.ensures c.in_ok-put_if.ensures) c.loop-of.invariant

pub returns : goal.returns
returns c =
    asked_all c.args.sides.now c.args.lost.now.rows.items c.requires.lost.rows c.args.id c.requires.id
    (subst (λ b. (b || is_found c.args.sides.now c.args.lost.now.rows.items c.args.id) ≡ true) c.requires.kept c.requires.held)
    c.args.row.now c.loop-of.of-index c.loop-of.set c.requires.row c.loop-of-test.false c.loop-of.invariant
