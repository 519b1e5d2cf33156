-- What a command comes to.
use Rattle.std.specs.Prelude.{◌≡◌, ◌≢◌, ◌≤◌, ℕ, List, [], length, map, Bool, Option, Some, None, Ok, option_map, IfSome, if◌then◌else◌}
use Rattle.std.specs.List.{All}
use Rattle.jc_base.specs.Outside.{FileOf}
use Rattle.jc_base.specs.States.{TreesState}
use Rattle.jc_facts.specs.declared.rule_numbers.TheConstants.{CLASS_GONE}
use Rattle.jc_facts.specs.declared.client.ClientClass.{ClientClass}
use Rattle.jc_facts.specs.declared.verdict.Verdict.{Verdict}
use Rattle.jc_promises.specs.client.Scope.{IsInScope}
use Rattle.jc_promises.specs.client.Keeps.{Keeps}
use Rattle.jc_promises.specs.client.Kept.{BreaksClass}
use Rattle.jc_facts.specs.Names.{Bytes}
use Rattle.jc_facts.specs.world.World.{World}
use Rattle.jc_gate.specs.Gates.{GateOf, all_pass}
use Rattle.jc_report.specs.HistoryText.{history_text_of}
use Rattle.jc_complete.specs.Completeness.{IsBroken}
use Rattle.jc_commands.specs.Check.{CheckRecords, CheckReport, IsCheckReport, IsShown, MeetsNone, old_side, new_side, report_of, check_bytes, puts_below}
use Rattle.jc_trees.specs.ClassFiles.{Told}
use Rattle.jc_releases.specs.Command.{witness_dir, asked_of}
use Rattle.jc_words.specs.Command.{CommandOf, CheckOf, CheckCommand, LinkCommand, MakeCommand, HistoryCommand, ClientsCommand, HelpCommand}
use Rattle.jc_commands.specs.Clients.{IsTold}
use Rattle.jc_commands.specs.History.{IsKeptRow, IsBorneOutRow}
use Rattle.jc_commands.specs.Make.{IsSize}
use Rattle.jc_commands.specs.Reports.{ToldTo, RecordsOf, ReportOf, IsReportOn, passes, bytes_of, puts_of}
use Rattle.jc_shown.specs.Witness.{PutFile, causes_of, witness_puts}
use Rattle.jc_call_lines.specs.LinesWithin.{ReferencesStill}
use Rattle.jc_select.specs.DroppedWithin.{InterfacesStill}
use Rattle.jc_select.specs.Within.{AnswersStill}
use Rattle.jc_commands.specs.declared.report.Report.{Report}
use Rattle.jc_commands.specs.declared.report.Condition.{Condition}
use Rattle.jc_commands.specs.declared.report.Condition.TheVariants as conditions
use Rattle.jc_commands.specs.declared.body.ReportBody.{ReportBody}
use Rattle.jc_commands.specs.declared.body.CheckBody.{CheckBody}
use Rattle.jc_shown.specs.declared.shown.Shown.{Shown}
use Rattle.jc_commands.specs.declared.body.ReportBody.TheVariants as bodies
use Rattle.jc_releases.specs.declared.status.TheConstants.{PASSED, NOT_PASSED}
use Rattle.jc_shown.specs.Shown.{CanShow}
use Rattle.jc_version.specs.LevelNumbers.{number_of}

-- the status once it is put
abbrev pub status_by : Bool → ℕ
status_by passes = if passes then PASSED else NOT_PASSED

-- whether it passes by these gates
abbrev pub passes_by : List GateOf → Condition → Bool
passes_by gates (conditions.Known passes) = passes
passes_by gates (conditions.ByGates names step clear rules) = all_pass gates (map (λ name. name.now) names.items) (record { step = option_map number_of step; clear = clear }) rules.items

-- ---- what is put

-- the report of a check, part by part
abbrev pub report_in : CheckBody → CheckReport
report_in check =
    report_of check.verdict (option_map (λ ws. ws.items) check.warnings) (option_map (λ ns. ns.items) check.signatures) (option_map (λ ds. ds.items) check.dropped)
    (option_map (λ ls. ls.items) check.calls)

-- the bytes that are put
abbrev pub bytes_in : ReportBody → Bytes
bytes_in (bodies.Bytes bytes) = bytes.items
bytes_in (bodies.Check check) = check_bytes check.json (report_in check)
bytes_in (bodies.Row verdicts) = history_text_of verdicts.items

-- the witness files are made of these sides, where there is a path for them
abbrev pub IsShownIn : Option Bytes → World → World → Option Shown → Type 0
IsShownIn None O N None = Unit {0}
IsShownIn (Some dir) O N (Some of) = (of.dir.now ≡ dir) × (of.old ≡ O) × (of.new ≡ N)
IsShownIn _ O N _ = ⊥

-- it is the report of a check, whose witness files are made of these sides
abbrev pub HasToShow : Option Bytes → World → World → Verdict → ReportBody → Type 0
HasToShow dir O N v (bodies.Bytes bytes) = ⊥
HasToShow dir O N v (bodies.Check check) = (check.verdict ≡ v) × IsShownIn dir O N check.shown
HasToShow dir O N v (bodies.Row verdicts) = ⊥

-- it is that of no check
abbrev pub IsBare : ReportBody → Type 0
IsBare (bodies.Bytes bytes) = Unit {0}
IsBare (bodies.Check check) = ⊥
IsBare (bodies.Row verdicts) = Unit {0}

-- the verdict can be shown
abbrev pub CanShowAll : Verdict → Option Shown → Type 0
CanShowAll v None = Unit {0}
CanShowAll v (Some of) = CanShow of v

abbrev pub CanShowAny : ReportBody → Type 0
CanShowAny (bodies.Bytes bytes) = Unit {0}
CanShowAny (bodies.Check check) = CanShowAll check.verdict check.shown
CanShowAny (bodies.Row verdicts) = Unit {0}

-- where its witness files are put
abbrev pub dir_shown : Option Shown → Option Bytes
dir_shown None = None
dir_shown (Some of) = Some of.dir.now

abbrev pub dir_in : ReportBody → Option Bytes
dir_in (bodies.Bytes bytes) = None
dir_in (bodies.Check check) = dir_shown check.shown
dir_in (bodies.Row verdicts) = None

-- its witness files
abbrev pub puts_shown : Verdict → Option Shown → List PutFile
puts_shown v None = []
puts_shown v (Some of) = witness_puts of.dir.now of.old of.new v

abbrev pub puts_in : ReportBody → List PutFile
puts_in (bodies.Bytes bytes) = []
puts_in (bodies.Check check) = puts_shown check.verdict check.shown
puts_in (bodies.Row verdicts) = []

-- ---- the report

-- where it is for generated releases, they may have as many classes; where it is for a row of releases, it has from 2 to 20; where it is for clients of two
-- releases, there are from 1 to 1,000
abbrev pub IsSized : CommandOf → Type 0
IsSized (MakeCommand n) = IsSize n
IsSized (HistoryCommand h) = (2 ≤ length h.releases) × (length h.releases ≤ 20)
IsSized (ClientsCommand c) = (1 ≤ length c.clients) × (length c.clients ≤ 1000)
IsSized command = Unit {0}

-- the bytes are those of a command's report, and by whatever gates, it passes where that does
pub record TellsOf (command : CommandOf) (of : ReportOf command) (report : Report) : Type 0 where
  pub text : bytes_in report.body ≡ bytes_of command of
  pub answer : (gates : List GateOf) → passes_by gates report.condition ≡ passes gates command of

-- what is promised of a check's report, of its verdict and of its witness files
pub record IsChecked (files : List FileOf) (check : CheckOf) (report : CheckReport) (puts : List PutFile) : Type 0 where
  pub records : CheckRecords files check
  pub parts : IsCheckReport records report
  pub kept : report.verdict.findings ≡ [] → (cs : List ClientClass) → IsInScope (old_side records) (new_side records) cs → MeetsNone (old_side records) cs report.verdict.collisions
      → Keeps (old_side records) (new_side records) cs
  pub broken : report.verdict.findings ≢ [] → (cs : List ClientClass) × IsBroken (old_side records) (new_side records) report.verdict cs
  pub breaks : All (λ f. f.rule ≡ CLASS_GONE → BreaksClass (old_side records) (new_side records) f.class f.error) report.verdict.findings
  pub answered : IfSome report.warnings (AnswersStill (old_side records) (new_side records))
  pub interfaces : IfSome report.dropped (InterfacesStill (old_side records) (new_side records))
  pub references : IfSome report.calls (ReferencesStill (old_side records) (new_side records))
  pub shown : All (IsShown (old_side records) (new_side records)) (causes_of report.verdict)
  pub puts_are : puts ≡ puts_below check.witness (old_side records) (new_side records) report.verdict

-- what a command promises beside its report
abbrev pub Upholds : Option (List FileOf) → (command : CommandOf) → ReportOf command → List PutFile → Type 0
Upholds content (CheckCommand check) report puts = Told content (λ files. IsChecked files check report puts)
Upholds content (LinkCommand link) list puts = Unit {0}
Upholds content (MakeCommand n) v puts = Unit {0}
Upholds content (HistoryCommand h) vs puts = Told content (λ files. IsKeptRow files h vs × IsBorneOutRow files h vs)
Upholds content (ClientsCommand c) report puts = Told content (λ files. IsTold files c report)
Upholds content HelpCommand page puts = Unit {0}

-- it tells of the command's report on the records of its trees
pub record IsReportOf (command : CommandOf) (trees : TreesState) (report : Report) : Type 0 where
  pub of : ReportOf command
  pub tells : TellsOf command of report
  pub dir_is : dir_in report.body ≡ witness_dir command
  pub can_show : CanShowAny report.body
  pub is_report : ToldTo command trees.content (λ files. (records : RecordsOf files command) × IsReportOn files command records of × (puts_in report.body ≡ puts_of files command records of))
  pub upholds : Upholds trees.content command of (puts_in report.body)

-- it tells of the report of the command that the words ask for, where these gates are there
pub record Reports (gates : List GateOf) (words : List Bytes) (trees : TreesState) (report : Report) : Type 0 where
  pub command : CommandOf
  pub asked_for : asked_of gates words ≡ Ok command
  pub is : IsReportOf command trees report
