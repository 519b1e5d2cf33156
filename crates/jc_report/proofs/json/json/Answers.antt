use Rattle.std.proofs.Common.{◌∙◌, ap}
use Rattle.serde_json.specs.Written.{has_float}
use Rattle.jc_report.proofs.Floats.{verdict_plain}
use Rattle.jc_report.proofs.json.json.Goals as goal

pub json_line-requires : goal.json_line-requires
json_line-requires c = ap has_float c.in_ok-value.ensures ∙ verdict_plain c.args.verdict.now
