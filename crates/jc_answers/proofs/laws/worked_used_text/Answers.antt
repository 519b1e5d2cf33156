use Rattle.std.proofs.Common.{refl}
use Rattle.std.specs.Fmt.{digits}
use Rattle.jc_answers.specs.UsedText.{used_text_of}
use Rattle.jc_report.specs.Text.{line_of_finding}
use Rattle.jc_answers.proofs.laws.worked_used_text.Goals as goal

pub returns : goal.returns
unfolding used_text_of line_of_finding digits
returns c = record { broken = refl; kept = refl }
