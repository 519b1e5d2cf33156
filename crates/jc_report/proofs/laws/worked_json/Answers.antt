use Rattle.std.proofs.Common.{refl}
use Rattle.std.specs.Fmt.{digits}
use Rattle.serde_json.proofs.OnLiterals.{serde_json_on_literals}
use Rattle.jc_report.specs.Json.{json_of}
use Rattle.jc_report.specs.Listing.{json_line}
use Rattle.jc_report.proofs.laws.worked_json.Goals as goal

pub returns : goal.returns
unfolding json_of json_line digits serde_json_on_literals
returns c = record { capture = refl; empty = refl; mixed = refl }
