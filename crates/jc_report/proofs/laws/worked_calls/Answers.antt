use Rattle.std.proofs.Common.{refl}
use Rattle.serde_json.proofs.OnLiterals.{serde_json_on_literals}
use Rattle.jc_report.specs.CallForms.{line_of_call}
use Rattle.jc_report.specs.Listing.{json_line}
use Rattle.jc_report.proofs.laws.worked_calls.Goals as goal

pub returns : goal.returns
unfolding json_line serde_json_on_literals line_of_call
returns c = record { text = refl; json = refl; none = refl; unasked = refl }
