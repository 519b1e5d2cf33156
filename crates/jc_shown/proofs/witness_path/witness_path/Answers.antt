use Rattle.std.proofs.lemmas.Str.{IsUtf8-from_is_utf8}
use Rattle.jc_shown.proofs.witness_path.witness_path.Goals as goal

pub unreachable-requires : goal.unreachable-requires
unreachable-requires c = c.in_default.ensures.cases.0 (rw c.as_bytes.ensures (IsUtf8-from_is_utf8 c.args.«class».now c.requires))
