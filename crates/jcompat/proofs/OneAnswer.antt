-- Two runs that ask the same.
use Rattle.std.proofs.Common.{◌≡◌, List, sym, ap, subst, ◌∙◌}
use Rattle.jc_base.specs.Outside.{FileOf}
use Rattle.jc_gate.specs.Gates.{GateOf}
use Rattle.jc_releases.specs.Command.{asked_of}
use Rattle.jc_words.specs.Command.{CommandOf}
use Rattle.jc_commands.specs.ReportValue.{status_by}
use Rattle.jc_commands.specs.Reports.{RecordsOf, ReportOf, IsReportOn, passes, bytes_of}
use Rattle.jc_commands.proofs.Events.{told_to}
use Rattle.jc_commands.proofs.Records.{one_report_of}
use Rattle.jc_trees.proofs.Results.{same_ok}
use Rattle.jcompat.specs.Alike.{OneAnswer}
use Rattle.jcompat.specs.Answers.{Puts, due_bytes}

-- the report is one on the records of the command's trees
abbrev IsReport : List FileOf → (command : CommandOf) → ReportOf command → Type 0
IsReport files command report = (records : RecordsOf files command) × IsReportOn files command records report

-- the reports of two commands that are one have the same bytes, and pass alike
abbrev SaysTheSame : (c d : CommandOf) → ReportOf c → ReportOf d → Type 0
SaysTheSame c d a b = (bytes_of c a ≡ bytes_of d b) × ((gates : List GateOf) → passes gates c a ≡ passes gates d b)

says_the_same : (files : List FileOf) (c d : CommandOf) → c ≡ d → (a : ReportOf c) → IsReport files c a → (b : ReportOf d) → IsReport files d b → SaysTheSame c d a b
says_the_same files c d e a h = subst (λ (k : CommandOf). (b : ReportOf k) → IsReport files k b → SaysTheSame c k a b) e same
  where
    same : (b : ReportOf c) → IsReport files c b → SaysTheSame c c a b
    same b k = let one : a ≡ b = one_report_of files c h.0 k.0 a b h.1 k.1 in (ap (bytes_of c) one, λ gates. ap (passes gates c) one)

pub one_answer : OneAnswer
one_answer r s p q alike h k =
    let x = p.left.answered h in
    let y = q.left.answered k in
    let d = x.0.due in
    let e = y.0.due in
    let asks : asked_of r.gates r.words ≡ asked_of s.gates s.words = ap (λ g. asked_of g r.words) alike.gates ∙ ap (asked_of s.gates) alike.words in
    let same = says_the_same alike.files d.command e.command (same_ok (asked_of r.gates r.words) d.command e.command d.asked_for (asks ∙ e.asked_for))
    d.report (told_to d.command r.trees.before.content alike.files alike.first_told (λ files. IsReport files d.command d.report) d.is_report)
    e.report (told_to e.command s.trees.before.content alike.files alike.second_told (λ files. IsReport files e.command e.report) e.is_report) in
    record {
      status = x.1.answer ∙ ap (λ g. status_by (passes g d.command d.report)) alike.gates ∙ ap status_by (same.1 s.gates) ∙ sym y.1.answer;
      bytes = due_bytes d;
      first_puts = x.1.put;
      second_puts = subst (Puts s) (sym same.0) y.1.put;
    }
