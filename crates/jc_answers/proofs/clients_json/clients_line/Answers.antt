use Rattle.std.proofs.Common.{◌∙◌, ap}
use Rattle.serde_json.specs.Written.{has_float}
use Rattle.jc_answers.proofs.Plain.{clients_plain}
use Rattle.jc_answers.proofs.clients_json.clients_line.Goals as goal

pub json_line-requires : goal.json_line-requires
json_line-requires c = ap has_float c.in_ok-value.ensures ∙ clients_plain c.args.answers.now
