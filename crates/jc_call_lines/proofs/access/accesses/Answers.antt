use Rattle.jc_call_lines.proofs.AccessLines.{is_rule}
use Rattle.jc_call_lines.proofs.access.accesses.Goals as goal

pub by_items-requires-clause-rule : goal.by_items-requires-clause-rule
by_items-requires-clause-rule c = is_rule
