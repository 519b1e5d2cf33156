use Rattle.std.proofs.Common.{refl}
use Rattle.serde_json.proofs.OnLiterals.{serde_json_on_literals}
use Rattle.jc_report.specs.Listing.{json_line}
use Rattle.jc_report.proofs.laws.worked_outcomes.Goals as goal

pub returns : goal.returns
unfolding json_line serde_json_on_literals
returns c = record { «class» = refl; call = refl; initializer = refl; assignment = refl }
