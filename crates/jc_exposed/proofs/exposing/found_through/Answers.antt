use Rattle.std.proofs.Common.{◌∙◌, sym}
use Rattle.jc_index.specs.Ids.{name_at}
use Rattle.jc_sound.proofs.Standing.{usable_parts}
use Rattle.jc_exposed.proofs.exposing.found_through.Goals as goal

pub found_above-requires-clause-loads : goal.found_above-requires-clause-loads
found_above-requires-clause-loads c = (usable_parts c.args.table.now (name_at c.args.table.now c.args.class) (sym c.is_usable.ensures ∙ c.if-is_usable.true)).loaded
