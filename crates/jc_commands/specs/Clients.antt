-- Clients of two releases: what is read for them, why that is refused, what is said of each, and which lines of the check of these releases explain it.
use Rattle.std.specs.Prelude.{◌≡◌, ◌≤◌, ◌⊎◌, ℕ, Bool, true, false, List, [], ◌∷◌, Option, None, Some, IsTrue}
use Rattle.jc_base.specs.Outside.{FileOf}
use Rattle.jc_facts.specs.declared.class_facts.ClassFacts.{ClassFacts}
use Rattle.jc_facts.specs.declared.verdict.Verdict.{Verdict}
use Rattle.jc_facts.specs.Names.{Bytes}
use Rattle.jc_facts.specs.Verdicts.{count_of}
use Rattle.jc_facts.specs.world.World.{World, Modules, side_in}
use Rattle.jc_promises.specs.rule.Verdict.{IsVerdict}
use Rattle.jc_used.specs.Lines.{lines_of, findings_in}
use Rattle.jc_used.specs.declared.line.Line.{Line}
use Rattle.jc_answers.specs.ClientsJson.{clients_bytes}
use Rattle.jc_answers.specs.Numbered.{AreNumbered}
use Rattle.jc_answers.specs.Said.{AreSaid, AreBorneOut}
use Rattle.jc_answers.specs.UsedJson.{used_bytes}
use Rattle.jc_answers.specs.declared.answer.Answer.{Answer}
use Rattle.jc_trees.specs.ReadTrees.{GiveAll}
use Rattle.jc_trees.specs.declared.tree_read.TreeRead.TheVariants as reads
use Rattle.jc_releases.specs.Command.{trees_of, client_trees}
use Rattle.jc_releases.specs.Releases.{read_as}
use Rattle.jc_words.specs.Command.{ClientsOf, ClientsCommand}
use Rattle.jc_releases.specs.declared.limits.TheConstants.{MAX_FINDINGS}
use Rattle.jc_releases.specs.declared.stop.Part.TheVariants as parts
use Rattle.jc_releases.specs.declared.stop.Stop.{Stop}
use Rattle.jc_releases.specs.declared.stop.Stop.TheVariants as stops
use Rattle.jc_commands.specs.Check.{mismatch_of, HasTooMany, IsVerdictOn}

-- the records of the platform and of both releases, and the modules of these
pub record ClientsRecords (files : List FileOf) (c : ClientsOf) : Type 0 where
  pub platform : List ClassFacts
  pub old : List ClassFacts
  pub old_modules : Modules
  pub new : List ClassFacts
  pub new_modules : Modules
  pub are : GiveAll files (trees_of (ClientsCommand c)) (reads.Library platform ∷ read_as old_modules old ∷ read_as new_modules new ∷ [])

-- the platform with the old release, and with the new one
abbrev pub side_before : {files : List FileOf} {c : ClientsOf} → ClientsRecords files c → World
side_before r = side_in r.old_modules r.platform r.old

abbrev pub side_after : {files : List FileOf} {c : ClientsOf} → ClientsRecords files c → World
side_after r = side_in r.new_modules r.platform r.new

-- what is said of the clients of each tree, over these two sides, whose releases go with the platform
pub record AreAnswers (files : List FileOf) (c : ClientsOf) (O N : World) (all : List Answer) : Type 0 where
  pub fits : mismatch_of O N ≡ None
  pub exact : AreSaid files O N (client_trees 1 c.clients) all

-- ---- the lines of a check

-- these are the lines of the verdict that `check` has on the two sides
pub record AreLinesOf (O N : World) (lines : List Line) : Type 0 where
  pub verdict : Verdict
  pub exact : IsVerdictOn O N verdict
  pub lines_are : lines ≡ lines_of N verdict

-- where they are asked for, and else none
abbrev pub AreAskedLines : Bool → World → World → Option (List Line) → Type 0
AreAskedLines false O N None = Unit {0}
AreAskedLines true O N (Some lines) = AreLinesOf O N lines
AreAskedLines _ O N _ = ⊥

-- the records are refused, and this is the first cause: the number of findings and collisions counts where lines are asked for alone
abbrev pub IsUnfitForClients : Bool → World → World → Stop → Type 0
IsUnfitForClients used O N stop = (mismatch_of O N ≡ Some stop) ⊎ (IsTrue used × (stop ≡ stops.TooMany parts.Findings) × HasTooMany O N)

-- no cause to refuse them stands
pub record IsFitForClients (used : Bool) (O N : World) : Type 0 where
  pub fits : mismatch_of O N ≡ None
  pub few : IsTrue used → (v : Verdict) → IsVerdict O N v → count_of v ≤ MAX_FINDINGS

-- ---- the report

-- lines of a check, and of the losses of the clients of each tree the numbers of the first that explain them
pub record Explanation : Type 0 where
  pub lines : List Line
  pub numbers : List (List (Option ℕ))

-- what is said of the clients of each tree, and the explanation, where it is asked for
pub record ClientsReport : Type 0 where
  pub answers : List Answer
  pub explanation : Option Explanation

-- the lines are those of the verdict on the two sides, and the numbers are theirs
pub record IsExplanation (files : List FileOf) (c : ClientsOf) (O N : World) (e : Explanation) : Type 0 where
  pub check : AreLinesOf O N e.lines
  pub numbered : AreNumbered files O N (Some e.lines) (client_trees 1 c.clients) e.numbers

-- it is there exactly where it is asked for
abbrev pub IsExplained : Bool → List FileOf → ClientsOf → World → World → Option Explanation → Type 0
IsExplained false files c O N None = Unit {0}
IsExplained true files c O N (Some e) = IsExplanation files c O N e
IsExplained _ files c O N _ = ⊥

-- what is reported of these two sides
pub record IsClientsReport (files : List FileOf) (c : ClientsOf) (O N : World) (report : ClientsReport) : Type 0 where
  pub answers : AreAnswers files c O N report.answers
  pub explained : IsExplained c.used files c O N report.explanation

-- the bytes of a report: the answers, and with them their explanation, where there is one
abbrev pub bytes_with : Bool → List Answer → Option Explanation → Bytes
bytes_with json all None = clients_bytes json all
bytes_with json all (Some e) = used_bytes json all e.numbers (findings_in e.lines)

abbrev pub clients_report_bytes : Bool → ClientsReport → Bytes
clients_report_bytes json report = bytes_with json report.answers report.explanation

-- this is reported of the clients of each tree, and what `link` says with either release bears it out
pub record IsTold (files : List FileOf) (c : ClientsOf) (report : ClientsReport) : Type 0 where
  pub records : ClientsRecords files c
  pub is_report : IsClientsReport files c (side_before records) (side_after records) report
  pub borne_out : AreBorneOut files (side_before records) (side_after records) (client_trees 1 c.clients) report.answers
