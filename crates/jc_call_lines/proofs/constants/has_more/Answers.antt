use Rattle.std.proofs.Common.{true, ◌∙◌}
use Rattle.jc_facts.specs.Names.{Bytes}
use Rattle.jc_call_lines.proofs.ConstantLines.{by_set}
use Rattle.jc_call_lines.proofs.constants.has_more.Goals as goal

pub returns : goal.returns
returns c = c.has_unlisted.ensures ∙ by_set (λ (x : Bytes). true) (λ x. x) c.args.before.now c.in_ok-listed.listed c.in_ok-listed.ensures c.args.after.now
