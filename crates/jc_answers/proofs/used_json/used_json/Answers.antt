use Rattle.std.proofs.Common.{◌∙◌, ap}
use Rattle.serde_json.specs.Written.{has_float}
use Rattle.jc_answers.proofs.UsedPlain.{used_plain}
use Rattle.jc_answers.proofs.used_json.used_json.Goals as goal

pub json_line-requires : goal.json_line-requires
json_line-requires c = ap has_float c.in_ok-value.ensures ∙ used_plain c.args.answers.now c.args.explained.now c.args.entries.now
