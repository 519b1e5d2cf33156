use Rattle.std.proofs.Common.{List, ◌++◌, ◌∷◌, [], sym, ap, ◌∙◌, append_assoc}
use Rattle.jc_facts.specs.declared.key.Key.{Key}
use Rattle.jc_sides.proofs.item_rule.set_of.Goals as goal

pub loop-key-preserved : goal.loop-key-preserved
loop-key-preserved c =
    let front : List Key = c.loop-key.invariant.0 in (
      front ++ c.in-Some.key ∷ [],
      c.in_ok-put.ensures front c.loop-key.invariant.1,
      append_assoc front (c.in-Some.key ∷ []) c.next.new.self.rest.items ∙ ap (λ (ks : List Key). front ++ ks) (sym c.in-Some.ensures.steps.0) ∙ c.loop-key.invariant.2,
    )
