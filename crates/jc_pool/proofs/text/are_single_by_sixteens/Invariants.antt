use Rattle.std.proofs.Common.{◌≡◌, ◌*◌, true, take}
use Rattle.std.specs.List.{list_all}
use Rattle.jc_pool.specs.steps.Texts.{is_single_byte}
use Rattle.jc_pool.proofs.text.are_single_by_sixteens.Given as goal

abbrev pub invariant-loop-i : goal.invariant-loop-i
invariant-loop-i l = list_all is_single_byte (take (16 * l.i) l.bytes) ≡ true
