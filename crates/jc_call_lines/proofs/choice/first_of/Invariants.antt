use Rattle.std.proofs.Common.{◌≡◌, drop}
use Rattle.jc_index.specs.steps.Choosing.{first_at}
use Rattle.jc_call_lines.proofs.choice.first_of.Given as goal

abbrev pub invariant-loop-id : goal.invariant-loop-id
invariant-loop-id g l = first_at (g.C.Choice.given l.choice l.table) (drop l.id-index l.ids) ≡ first_at (g.C.Choice.given l.choice l.table) l.ids
