-- A check of two releases: what it reads, why that is refused, its verdict, and its warnings, its notes on signatures, its dropped interfaces and its lines on
-- calls where they are asked for.
use Rattle.std.specs.Prelude.{◌≡◌, ◌≢◌, ◌≤◌, ◌<◌, ℕ, ◌+◌, List, [], ◌∷◌, ◌++◌, map, length, Bool, true, false, IsTrue, IsSomeAnd, Option, Some, None, if◌then◌else◌}
use Rattle.std.specs.List.{All}
use Rattle.jc_base.specs.Outside.{FileOf}
use Rattle.jc_base.specs.States.{FolderState, Change}
use Rattle.jc_facts.specs.declared.rule_numbers.TheConstants.{CLASS_GONE}
use Rattle.jc_call_kinds.specs.declared.call_line.CallKind.TheVariants.{Reference}
use Rattle.jc_call_kinds.specs.declared.call_line.CallLine.{CallLine}
use Rattle.jc_calls.specs.CallsKept.{ReferencesKept}
use Rattle.jc_calls.specs.Lines.{AreLines}
use Rattle.jc_facts.specs.declared.dropped.Dropped.{Dropped}
use Rattle.jc_dropped.specs.Dropped.{AreDropped}
use Rattle.jc_dropped.specs.InterfacesKept.{InterfacesKept}
use Rattle.jc_facts.specs.declared.class_facts.ClassFacts.{ClassFacts}
use Rattle.jc_facts.specs.declared.client.ClientClass.{ClientClass}
use Rattle.jc_facts.specs.declared.verdict.Cause.{Cause}
use Rattle.jc_facts.specs.declared.verdict.Collision.{Collision}
use Rattle.jc_facts.specs.declared.sig_note.SigNote.{SigNote}
use Rattle.jc_facts.specs.declared.verdict.Verdict.{Verdict}
use Rattle.jc_facts.specs.declared.warning.Warning.{Warning}
use Rattle.jc_facts.specs.Names.{Bytes}
use Rattle.jc_facts.specs.world.World.{World, Modules, side_in, with_clients}
use Rattle.jc_promises.specs.client.Scope.{IsInScope}
use Rattle.jc_promises.specs.client.Keeps.{Keeps}
use Rattle.jc_facts.specs.client.Valid.{facts_of}
use Rattle.jc_promises.specs.client.Kept.{BreaksClass}
use Rattle.jc_promises.specs.client.Meets.{Meets}
use Rattle.jc_promises.specs.rule.Verdict.{IsVerdict}
use Rattle.jc_facts.specs.Verdicts.{count_of}
use Rattle.jc_promises.specs.rule.Warnings.{AreWarnings}
use Rattle.jc_report.specs.CallForms.{calls_bytes}
use Rattle.jc_report.specs.DroppedForms.{dropped_bytes}
use Rattle.jc_report.specs.Json.{json_of}
use Rattle.jc_report.specs.SigForms.{sig_bytes}
use Rattle.jc_report.specs.Text.{text_of}
use Rattle.jc_report.specs.WarnForms.{warn_bytes}
use Rattle.jc_selection.specs.SelectionKept.{MeetsNoFinal, StaysAnswered}
use Rattle.jc_complete.specs.Completeness.{IsBroken}
use Rattle.jc_witness.specs.declared.witness.WitnessFile.{WitnessFile}
use Rattle.jc_witness.specs.Witnesses.{IsWitness, IsWitnessOf, MeetsOnly, error_of, witness_files}
use Rattle.jc_trees.specs.ReadTrees.{GiveAll}
use Rattle.jc_trees.specs.declared.tree_read.TreeRead.TheVariants as reads
use Rattle.jc_releases.specs.Command.{trees_of}
use Rattle.jc_words.specs.Command.{CheckOf, CheckCommand}
use Rattle.jc_releases.specs.Releases.{read_as, old_and_new, mismatch_among}
use Rattle.jc_commands.specs.CallsPart.{AreAskedCalls}
use Rattle.jc_commands.specs.DroppedPart.{AreAskedDropped}
use Rattle.jc_commands.specs.Signatures.{AreSigNotes, AreNoted}
use Rattle.jc_shown.specs.Witness.{PutFile, PutsFiles, put_file, causes_of, witness_puts}
use Rattle.jc_releases.specs.declared.limits.TheConstants.{MAX_FINDINGS, MAX_WARNINGS, MAX_DROPPED, MAX_CALLS}
use Rattle.jc_releases.specs.declared.stop.Part.TheVariants as parts
use Rattle.jc_releases.specs.declared.stop.Stop.{Stop}
use Rattle.jc_releases.specs.declared.stop.Stop.TheVariants as stops

-- the records of its three trees, and the modules of the two releases
pub record CheckRecords (files : List FileOf) (check : CheckOf) : Type 0 where
  pub platform : List ClassFacts
  pub old : List ClassFacts
  pub old_modules : Modules
  pub new : List ClassFacts
  pub new_modules : Modules
  pub are : GiveAll files (trees_of (CheckCommand check)) (reads.Library platform ∷ read_as old_modules old ∷ read_as new_modules new ∷ [])

-- the platform with the old release, and with the new one
abbrev pub old_side : {files : List FileOf} {check : CheckOf} → CheckRecords files check → World
old_side r = side_in r.old_modules r.platform r.old

abbrev pub new_side : {files : List FileOf} {check : CheckOf} → CheckRecords files check → World
new_side r = side_in r.new_modules r.platform r.new

-- ---- why the records are refused

-- the first reason why the releases of two sides don't go with their platform
abbrev pub mismatch_of : World → World → Option Stop
mismatch_of O N = mismatch_among O.platform (old_and_new O.release N.release)

-- the releases go with the platform, and their verdict has too many findings and collisions
pub record HasTooMany (O N : World) : Type 0 where
  pub fits : mismatch_of O N ≡ None
  pub verdict : Verdict
  pub exact : IsVerdict O N verdict
  pub many : MAX_FINDINGS < count_of verdict

-- the releases go with the platform, their verdict hasn't too many findings and collisions, and there are too many warnings on them
pub record HasTooManyWarnings (O N : World) : Type 0 where
  pub fits : mismatch_of O N ≡ None
  pub few : (v : Verdict) → IsVerdict O N v → count_of v ≤ MAX_FINDINGS
  pub warnings : List Warning
  pub exact : AreWarnings O N warnings
  pub many : MAX_WARNINGS < length warnings

-- the releases go with the platform, none of what is asked for before is too much, and there are too many dropped interfaces
pub record HasTooManyDropped (check : CheckOf) (O N : World) : Type 0 where
  pub fits : mismatch_of O N ≡ None
  pub few : (v : Verdict) → IsVerdict O N v → count_of v ≤ MAX_FINDINGS
  pub few_warnings : IsTrue check.warn → (ws : List Warning) → AreWarnings O N ws → length ws ≤ MAX_WARNINGS
  pub dropped : List Dropped
  pub exact : AreDropped O N dropped
  pub many : MAX_DROPPED < length dropped

-- the releases go with the platform, none of what is asked for before is too much, and there are too many lines on calls
pub record HasTooManyCalls (check : CheckOf) (O N : World) : Type 0 where
  pub fits : mismatch_of O N ≡ None
  pub few : (v : Verdict) → IsVerdict O N v → count_of v ≤ MAX_FINDINGS
  pub few_warnings : IsTrue check.warn → (ws : List Warning) → AreWarnings O N ws → length ws ≤ MAX_WARNINGS
  pub few_dropped : IsTrue check.dropped → (ds : List Dropped) → AreDropped O N ds → length ds ≤ MAX_DROPPED
  pub lines : List CallLine
  pub exact : AreLines O N lines
  pub many : MAX_CALLS < length lines

-- the records are refused, and this is the first cause; warnings, dropped interfaces and lines on calls count where they are asked for alone
pub data IsUnfit (check : CheckOf) (O N : World) (stop : Stop) : Type 0 where
  is_apart : mismatch_of O N ≡ Some stop → IsUnfit check O N stop
  over_findings : stop ≡ stops.TooMany parts.Findings → HasTooMany O N → IsUnfit check O N stop
  over_warnings : IsTrue check.warn → stop ≡ stops.TooMany parts.Warnings → HasTooManyWarnings O N → IsUnfit check O N stop
  over_dropped : IsTrue check.dropped → stop ≡ stops.TooMany parts.Dropped → HasTooManyDropped check O N → IsUnfit check O N stop
  over_calls : IsTrue check.calls → stop ≡ stops.TooMany parts.Calls → HasTooManyCalls check O N → IsUnfit check O N stop

-- no cause to refuse them stands
pub record IsFit (check : CheckOf) (O N : World) : Type 0 where
  pub fits : mismatch_of O N ≡ None
  pub few : (v : Verdict) → IsVerdict O N v → count_of v ≤ MAX_FINDINGS
  pub few_warnings : IsTrue check.warn → (ws : List Warning) → AreWarnings O N ws → length ws ≤ MAX_WARNINGS
  pub few_dropped : IsTrue check.dropped → (ds : List Dropped) → AreDropped O N ds → length ds ≤ MAX_DROPPED
  pub few_calls : IsTrue check.calls → (ls : List CallLine) → AreLines O N ls → length ls ≤ MAX_CALLS

-- ---- the verdict

-- the verdict on the two sides, where nothing refuses them
pub record IsVerdictOn (O N : World) (v : Verdict) : Type 0 where
  pub fits : mismatch_of O N ≡ None
  pub exact : IsVerdict O N v
  pub few : count_of v ≤ MAX_FINDINGS

-- ---- the warnings

-- those on the two sides, where they are asked for, within their limit, and else none
abbrev pub AreWarned : Bool → World → World → Option (List Warning) → Type 0
AreWarned false O N None = Unit {0}
AreWarned true O N (Some ws) = AreWarnings O N ws × (length ws ≤ MAX_WARNINGS)
AreWarned _ O N _ = ⊥

-- ---- the report

-- what a check reports, part by part
pub record CheckReport : Type 0 where
  pub verdict : Verdict
  pub warnings : Option (List Warning)
  pub signatures : Option (List SigNote)
  pub dropped : Option (List Dropped)
  pub calls : Option (List CallLine)

-- the report with these parts
abbrev pub report_of : Verdict → Option (List Warning) → Option (List SigNote) → Option (List Dropped) → Option (List CallLine) → CheckReport
report_of v ws ns ds ls = record { verdict = v; warnings = ws; signatures = ns; dropped = ds; calls = ls }

-- what each part of it is on these records, where nothing refuses them
pub record IsCheckReport {files : List FileOf} {check : CheckOf} (records : CheckRecords files check) (report : CheckReport) : Type 0 where
  pub verdict : IsVerdictOn (old_side records) (new_side records) report.verdict
  pub warnings : AreWarned check.warn (old_side records) (new_side records) report.warnings
  pub signatures : AreNoted check.signatures (old_side records) (new_side records) report.signatures
  pub dropped : AreAskedDropped check.dropped (old_side records) (new_side records) report.dropped
  pub calls : AreAskedCalls check.calls (old_side records) (new_side records) report.calls

-- the bytes of a verdict: its JSON where that is asked for, and else its text
abbrev pub verdict_bytes : Bool → Verdict → Bytes
verdict_bytes json v = if json then json_of v else text_of v

-- the bytes of what stands behind the notes on signatures, in this order
abbrev pub last_bytes : Bool → CheckReport → Bytes
last_bytes json report = dropped_bytes json report.dropped ++ calls_bytes json report.calls

-- the bytes of what stands behind the warnings, in this order
abbrev pub behind_bytes : Bool → CheckReport → Bytes
behind_bytes json report = sig_bytes json report.signatures ++ last_bytes json report

-- the bytes of what is asked for beside the verdict, in this order
abbrev pub besides_bytes : Bool → CheckReport → Bytes
besides_bytes json report = warn_bytes json report.warnings ++ behind_bytes json report

-- the bytes of a report: those of its parts, in this order
abbrev pub check_bytes : Bool → CheckReport → Bytes
check_bytes json report = verdict_bytes json report.verdict ++ besides_bytes json report

-- ---- what the verdict says of clients

-- the clients meet none of the collisions with the old side
abbrev pub MeetsNone : World → List ClientClass → List Collision → Type 0
MeetsNone O cs = All (λ c. ¬ (Meets (with_clients O (facts_of cs)) cs c))

-- the verdict has no finding, and each client world in scope that meets none of its collisions keeps with the new release each load,
-- and each assignment and use in reach, that held with the old
pub record IsCompatible (files : List FileOf) (check : CheckOf) (v : Verdict) : Type 0 where
  pub records : CheckRecords files check
  pub verdict : IsVerdictOn (old_side records) (new_side records) v
  pub none : v.findings ≡ []
  pub keeps : (cs : List ClientClass) → IsInScope (old_side records) (new_side records) cs → MeetsNone (old_side records) cs v.collisions
      → Keeps (old_side records) (new_side records) cs

-- the verdict has no finding and nothing is warned of, and in each client world in scope that meets none of the collisions of methods made final, each
-- client class that answered with the old release all that was due to it answers all that is due with the new
pub record IsAnswered (files : List FileOf) (check : CheckOf) (report : CheckReport) : Type 0 where
  pub records : CheckRecords files check
  pub parts : IsCheckReport records report
  pub none : report.verdict.findings ≡ []
  pub nothing : report.warnings ≡ Some []
  pub answered : (cs : List ClientClass) → IsInScope (old_side records) (new_side records) cs → MeetsNoFinal (with_clients (old_side records) (facts_of cs)) cs report.verdict.collisions
      → StaysAnswered (old_side records) (new_side records) cs

-- behind the verdict and the warnings, the report has these notes on signatures, exactly those on the two sides
pub record IsNoted (files : List FileOf) (check : CheckOf) (report : CheckReport) (notes : List SigNote) : Type 0 where
  pub records : CheckRecords files check
  pub parts : IsCheckReport records report
  pub signatures : report.signatures ≡ Some notes
  pub exact : AreSigNotes (old_side records) (new_side records) notes

-- the verdict has no finding and no interface is dropped, and each client world in scope that meets none of its collisions keeps with the new release,
-- above each class that is a client or whose values clients can hold, each interface that clients can name
pub record KeepsInterfaces (files : List FileOf) (check : CheckOf) (report : CheckReport) : Type 0 where
  pub records : CheckRecords files check
  pub parts : IsCheckReport records report
  pub none : report.verdict.findings ≡ []
  pub nothing : report.dropped ≡ Some []
  pub kept : (cs : List ClientClass) → IsInScope (old_side records) (new_side records) cs → MeetsNone (old_side records) cs report.verdict.collisions
      → InterfacesKept (old_side records) (new_side records) cs

-- none of the lines says that method references no longer link
abbrev pub TellNoReference : List CallLine → Type 0
TellNoReference ls = All (λ l. l.kind ≢ Reference) ls

-- the verdict has no finding, the lines on calls are there, and none says that method references no longer link; and each client world in scope that
-- meets none of its collisions keeps each method reference that was Ok with the old release and names a class of a library
pub record KeepsReferences (files : List FileOf) (check : CheckOf) (report : CheckReport) : Type 0 where
  pub records : CheckRecords files check
  pub parts : IsCheckReport records report
  pub none : report.verdict.findings ≡ []
  pub nothing : IsSomeAnd report.calls TellNoReference
  pub kept : (cs : List ClientClass) → IsInScope (old_side records) (new_side records) cs → MeetsNone (old_side records) cs report.verdict.collisions
      → ReferencesKept (old_side records) (new_side records) cs

-- the verdict has a finding, and there is a client world in scope that meets none of its collisions and isn't kept. Whatever client world in
-- scope there is, each client's naming of a class that is gone, by H1, is Ok with the old release, and has the finding's error with the new
pub record IsIncompatible (files : List FileOf) (check : CheckOf) (v : Verdict) : Type 0 where
  pub records : CheckRecords files check
  pub verdict : IsVerdictOn (old_side records) (new_side records) v
  pub some : v.findings ≢ []
  pub broken : (cs : List ClientClass) × IsBroken (old_side records) (new_side records) v cs
  pub breaks : All (λ f. f.rule ≡ CLASS_GONE → BreaksClass (old_side records) (new_side records) f.class f.error) v.findings

-- ---- the witnesses, as they are planned and written

-- the witness files of the verdict, where they are asked for
abbrev pub puts_below : Option Bytes → World → World → Verdict → List PutFile
puts_below None O N v = []
puts_below (Some dir) O N v = witness_puts dir O N v

-- the witness files of the cause are read as a client world in scope that links whole with the old side, and that fails with the new one at one
-- spot by the error of the cause; of the verdict's collisions that of a finding meets none, and that of a collision meets it
abbrev pub IsShown : World → World → Cause → Type 0
IsShown O N e = IsWitnessOf O N e (witness_files O N e)

-- ---- the witnesses, however they are planned and written

-- the files are read as a client world in scope that links whole with the old side, and of which one spot has with the new one the error of the
-- cause. Of the verdict's collisions that of a finding meets none, and that of a collision meets it
pub record Shows (O N : World) (v : Verdict) (e : Cause) (fs : List WitnessFile) : Type 0 where
  pub clients : List ClientClass
  pub witness : IsWitness O N (error_of e) fs clients
  pub meets : MeetsOnly O e v clients

-- the files below the path are, for each of the causes, whose numbers go on from this one, some that show it
abbrev pub ShowEach : Bytes → World → World → Verdict → ℕ → List Cause → List PutFile → Type 0
ShowEach dir O N v n [] puts = puts ≡ []
ShowEach dir O N v n (e ∷ es) puts =
    (fs : List WitnessFile) × (rest : List PutFile) × (puts ≡ map (put_file dir n) fs ++ rest) × Shows O N v e fs × ShowEach dir O N v (n + 1) es rest

-- each finding and each collision of the verdict is shown by some class files, whether they are put anywhere or not
abbrev pub AreShown : World → World → Verdict → Type 0
AreShown O N v = All (λ e. (fs : List WitnessFile) × Shows O N v e fs) (causes_of v)

-- each part of the report is what it has to be on the records, and each finding and each collision is shown
pub record IsBorneOut (files : List FileOf) (check : CheckOf) (report : CheckReport) : Type 0 where
  pub records : CheckRecords files check
  pub parts : IsCheckReport records report
  pub shown : AreShown (old_side records) (new_side records) report.verdict

-- the folder holds below the path files that show each finding and each collision of the verdict, and every other path is as before
pub record HoldsClients (files : List FileOf) (check : CheckOf) (v : Verdict) (dir : Bytes) (folder : Change FolderState) : Type 0 where
  pub records : CheckRecords files check
  pub verdict : IsVerdictOn (old_side records) (new_side records) v
  pub puts : List PutFile
  pub put : PutsFiles folder puts
  pub shown : ShowEach dir (old_side records) (new_side records) v 1 (causes_of v) puts
