-- Parts of a class file that are passed over by their counts and lengths, and not judged: what comes behind them (JVMS 4.1).
use Rattle.std.specs.Prelude.{◌*◌, Result, Ok}
use Rattle.jc_desc.specs.declared.fault.Fault.{Fault}
use Rattle.jc_desc.specs.Faults.{◌>>=◌, number_at, part_at}
use Rattle.jc_facts.specs.Names.{Bytes}
use Rattle.jc_facts.specs.file.Attributes.{behind, counted_at, skipped_from}

-- a count, and so many indices of interfaces
unfoldable pub skipped_interfaces_at : Bytes → Result Bytes Fault
skipped_interfaces_at bytes = do
  n ← number_at 2 bytes
  behind (part_at (2 * n.0) n.1)

-- a field or a method: its flags and two indices, six bytes, and its attributes (JVMS 4.5, 4.6)
unfoldable pub skipped_member_from : Bytes → Result (Bytes × Bytes) Fault
skipped_member_from bytes = do
  head ← part_at 6 bytes
  rest ← behind (counted_at skipped_from head.1)
  Ok (head.0, rest)
