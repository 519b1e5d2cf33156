use Rattle.std.proofs.Common.{refl}
use Rattle.std.specs.Fmt.{digits}
use Rattle.serde_json.proofs.OnLiterals.{serde_json_on_literals}
use Rattle.jc_answers.specs.UsedJson.{used_json_of}
use Rattle.jc_report.specs.Listing.{json_line}
use Rattle.jc_answers.proofs.laws.worked_used_json.Goals as goal

pub returns : goal.returns
unfolding used_json_of json_line digits serde_json_on_literals
returns c = record { broken = refl; kept = refl }
