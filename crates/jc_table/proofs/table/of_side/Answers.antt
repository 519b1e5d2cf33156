use Rattle.std.proofs.Common.{◌≡◌, map, sym, ◌∙◌, subst}
use Rattle.jc_facts.specs.world.World.{World}
use Rattle.jc_facts.specs.world.Loading.{load_fault}
use Rattle.jc_index.specs.Ids.{names}
use Rattle.jc_index.specs.Sides.{IsSide}
use Rattle.jc_table.proofs.table.of_side.Goals as goal

pub invariant_of-result : goal.invariant_of-result
invariant_of-result c = record {
  side = subst IsSide (sym (c.in_ok-hierarchy.ensures ∙ c.in_ok-index.ensures)) c.requires.side;
  faults = subst (λ (W : World). c.in_ok-faults.field-0.faults.items ≡ map (load_fault W) (names W)) (sym c.in_ok-hierarchy.ensures) c.in_ok-faults.ensures.faults;
  rows = c.in_ok-rows.ensures;
}
