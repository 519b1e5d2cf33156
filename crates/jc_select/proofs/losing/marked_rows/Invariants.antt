use Rattle.std.proofs.Common.{◌≡◌, [], length}
use Rattle.jc_facts.specs.world.World.{size}
use Rattle.jc_index.specs.Ids.{name_at}
use Rattle.jc_select.specs.steps.Losing.{AreClear, AreDone, AreNumbersOf, lost_at}
use Rattle.jc_select.proofs.losing.marked_rows.Given as goal

abbrev pub invariant-loop-n : goal.invariant-loop-n
invariant-loop-n l = record {
  done : AreDone [] (λ n row. AreNumbersOf l.sides.old (lost_at l.sides (name_at l.sides.old n)) row) l.n l.rows.items;
  count : length l.marks ≡ size l.sides.new;
  clear : AreClear l.marks;
}
