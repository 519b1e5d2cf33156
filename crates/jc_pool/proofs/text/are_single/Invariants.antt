use Rattle.std.proofs.Common.{◌≡◌, take}
use Rattle.std.specs.List.{list_all}
use Rattle.jc_pool.specs.steps.Texts.{is_single_byte}
use Rattle.jc_pool.proofs.text.are_single.Given as goal

abbrev pub invariant-loop-byte : goal.invariant-loop-byte
invariant-loop-byte l = l.single ≡ list_all is_single_byte (take l.byte-index l.bytes)
