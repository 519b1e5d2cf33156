use Rattle.std.proofs.Common.{◌≡◌, true, drop}
use Rattle.jc_desc.specs.Names.{is_rest_of_name}
use Rattle.jc_desc.proofs.names.are_name_parts.Given as goal

abbrev pub invariant-loop-byte : goal.invariant-loop-byte
invariant-loop-byte l = is_rest_of_name l.begins (drop l.byte-index l.bytes) ≡ is_rest_of_name true l.bytes
