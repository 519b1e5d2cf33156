use Rattle.std.proofs.Common.{refl}
use Rattle.serde_json.proofs.OnLiterals.{serde_json_on_literals}
use Rattle.jc_report.specs.Listing.{json_line}
use Rattle.jc_report.specs.SigForms.{line_of_sig_note}
use Rattle.jc_report.proofs.laws.worked_signatures.Goals as goal

pub returns : goal.returns
unfolding json_line serde_json_on_literals line_of_sig_note
returns c = record { text = refl; class = refl; none = refl; member = refl }
