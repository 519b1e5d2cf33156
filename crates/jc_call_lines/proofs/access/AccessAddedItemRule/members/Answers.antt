use Rattle.jc_call_lines.proofs.AccessLines.{of_methods}
use Rattle.jc_call_lines.proofs.access.AccessAddedItemRule.members.Goals as goal

pub returns : goal.returns
returns c = λ s x covered. of_methods s x
