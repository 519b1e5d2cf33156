-- The answers of the top call.
use Rattle.std.specs.Prelude.{◌≡◌, ◌≢◌, ◌≤◌, ◌⊎◌, ◌↔◌, ℕ, List, [], ◌∷◌, Some, None, Ok, IfOk, IsTrue, IsSomeAnd, Bool, true, false, codes}
use Rattle.jc_base.specs.Outside.{FileOf}
use Rattle.jc_base.specs.States.{TreesState, SinkState, FolderState, Change}
use Rattle.jc_facts.specs.declared.sig_note.SigNote.{SigNote}
use Rattle.jc_facts.specs.declared.verdict.Verdict.{Verdict}
use Rattle.jc_facts.specs.Names.{Bytes}
use Rattle.jc_gate.specs.Gates.{GateOf}
use Rattle.jc_gate.specs.Meanings.{HasLinksGate, HasCallsGate}
use Rattle.jc_commands.specs.Causes.{HasCause, IsRefused, IsAccepted, HasFailed}
use Rattle.jc_commands.specs.Check.{CheckReport, IsAnswered, IsCompatible, IsIncompatible, IsBorneOut, IsNoted, KeepsInterfaces, KeepsReferences, TellNoReference, HoldsClients, check_bytes}
use Rattle.jc_trees.specs.ClassFiles.{Told}
use Rattle.jc_releases.specs.Command.{witness_dir, step_of_check, asked_of}
use Rattle.jc_words.specs.Command.{CommandOf, CheckOf, HistoryOf, ClientsOf, CheckCommand, HistoryCommand, ClientsCommand, HelpCommand, asked}
use Rattle.jc_words.specs.Help.{help_page}
use Rattle.jc_answers.specs.ClientsText.{are_all_kept}
use Rattle.jc_commands.specs.Clients.{ClientsReport, clients_report_bytes, IsTold}
use Rattle.jc_commands.specs.History.{IsKeptRow, IsBorneOutRow}
use Rattle.jc_commands.specs.Outputs.{IsQuiet, PutsAll, PutsFront, HasPutFault, IsUntouched, HasFolderFault}
use Rattle.jc_commands.specs.ReportValue.{status_by}
use Rattle.jc_commands.specs.Reports.{ToldTo, RecordsOf, ReportOf, IsReportOn, rules_of, is_clear, passes, bytes_of, puts_of}
use Rattle.jc_releases.specs.Stop.{line_of, status_of}
use Rattle.jc_shown.specs.Witness.{PutFile, PutsFiles, PutsSome}
use Rattle.jc_report.specs.HistoryText.{history_text_of}
use Rattle.jc_version.specs.Needs.{need_of, HasVersionGate}
use Rattle.jc_releases.specs.declared.status.TheConstants.{PASSED, NOT_PASSED, USAGE, BAD_INPUT, READ_FAULT, WRITE_FAULT, NO_MEMORY, LIMIT}
use Rattle.jc_releases.specs.declared.stop.Stop.{Stop}
use Rattle.jc_releases.specs.declared.stop.Stop.TheVariants as stops

-- the gates, what was asked for, the trees, both sinks and the folder for witness files before and after, and the exit status
pub record Ran : Type 0 where
  pub gates : List GateOf
  pub words : List Bytes
  pub trees : Change TreesState
  pub out : Change SinkState
  pub err : Change SinkState
  pub folder : Change FolderState
  pub status : ℕ

abbrev pub ran : List GateOf → List Bytes → Change TreesState → Change SinkState → Change SinkState → Change FolderState → ℕ → Ran
ran gates words trees out err folder status = record { gates = gates; words = words; trees = trees; out = out; err = err; folder = folder; status = status }

-- this holds of the files, where they are told
abbrev pub OfFiles : Ran → (List FileOf → Type 0) → Type 0
OfFiles r = Told r.trees.before.content

-- the report that was due: that of the command that the words ask for, on the records of its trees
pub record Due (r : Ran) : Type 0 where
  pub command : CommandOf
  pub asked_for : asked_of r.gates r.words ≡ Ok command
  pub report : ReportOf command
  pub is_report : ToldTo command r.trees.before.content (λ files. (records : RecordsOf files command) × IsReportOn files command records report)

-- whether what was asked is so, by the report that was due
abbrev pub has_passed : {r : Ran} → Due r → Bool
has_passed {r} due = passes r.gates due.command due.report

-- the bytes of the report that was due
abbrev pub due_bytes : {r : Ran} → Due r → Bytes
due_bytes due = bytes_of due.command due.report

-- the bytes were put to the output whole, and nothing to the error stream
pub record Puts (r : Ran) (bytes : Bytes) : Type 0 where
  pub output : PutsAll r.out bytes
  pub errors : IsQuiet r.err

-- there is a refusal or a failed call with this status: its line was put to the error stream, and nothing to the output or into the folder
pub record IsStopped (r : Ran) : Type 0 where
  pub stop : Stop
  pub status : status_of stop ≡ r.status
  pub cause : HasCause r.gates r.words r.trees stop
  pub output : IsQuiet r.out
  pub errors : PutsAll r.err (line_of stop)
  pub folder : IsUntouched r.folder

-- a report was due with witness files, not all of which were put: nothing was put to the output or to the error stream; a failed put was one into
-- the folder
pub record CutsWitnesses (r : Ran) (due : Due r) : Type 0 where
  pub asked_for : (dir : Bytes) × (witness_dir due.command ≡ Some dir)
  pub output : IsQuiet r.out
  pub errors : IsQuiet r.err
  pub cause : r.status ≡ WRITE_FAULT → HasFolderFault r.folder

-- a report was due: a prefix of its bytes was put, and nothing to the error stream; a failed put was one on the output
pub record CutsReport (r : Ran) (due : Due r) : Type 0 where
  pub output : PutsFront r.out (due_bytes due)
  pub errors : IsQuiet r.err
  pub cause : r.status ≡ WRITE_FAULT → HasPutFault r.out

-- a refusal was due, or there was no memory, which has no line: a prefix of the line was put, and nothing to the output or into the folder; a
-- failed put was one on the error stream, of a line that was due
pub record CutsRefusal (r : Ran) (stop : Stop) : Type 0 where
  pub due : HasCause r.gates r.words r.trees stop
  pub output : IsQuiet r.out
  pub folder : IsUntouched r.folder
  pub errors : PutsFront r.err (line_of stop)
  pub cause : r.status ≡ WRITE_FAULT → HasPutFault r.err
  pub has_line : r.status ≡ WRITE_FAULT → stop ≢ stops.Memory

-- a put failed, or there was no memory
abbrev pub IsCutShort : Ran → Type 0
IsCutShort r = ((due : Due r) × (CutsWitnesses r due ⊎ CutsReport r due)) ⊎ ((stop : Stop) × CutsRefusal r stop)

-- ---- the folder

-- the report that was due, with the witness files that are planned for it
pub record Planned (r : Ran) : Type 0 where
  pub due : Due r
  pub puts : List PutFile
  pub planned : ToldTo due.command r.trees.before.content (λ files. (records : RecordsOf files due.command) × IsReportOn files due.command records due.report × (puts ≡ puts_of files due.command records due.report))

-- the report that was due was put whole, and the status says whether what was asked is so by it
pub record IsPut (r : Ran) (due : Due r) : Type 0 where
  pub answer : r.status ≡ status_by (has_passed due)
  pub put : Puts r (due_bytes due)

-- what the folder holds of the planned witness files. Where the report was put, they stand whole; where a put failed or there was no memory, they
-- stand whole if all were put, and else the first of them stand whole and the next one's path may hold anything. Every other path is as before
pub record Leaves (r : Ran) : Type 0 where
  pub answered : (r.status ≡ PASSED) ⊎ (r.status ≡ NOT_PASSED) → (p : Planned r) × IsPut r p.due × PutsFiles r.folder p.puts
  pub cut : (r.status ≡ WRITE_FAULT) ⊎ (r.status ≡ NO_MEMORY)
      → ((p : Planned r) × ((CutsWitnesses r p.due × PutsSome r.folder p.puts) ⊎ (CutsReport r p.due × PutsFiles r.folder p.puts))) ⊎ ((stop : Stop) × CutsRefusal r stop)

-- ---- the contract

-- what is promised of a run
pub record Answers (r : Ran) : Type 0 where
  pub known : r.status ≤ LIMIT
  -- what was asked is so, by the report that was due, which was put
  pub passed : r.status ≡ PASSED → (due : Due r) × (has_passed due ≡ true) × Puts r (due_bytes due)
  -- it isn't so, by the report that was due, which was put
  pub not_passed : r.status ≡ NOT_PASSED → (due : Due r) × (has_passed due ≡ false) × Puts r (due_bytes due)
  -- of a check: what was put is its report, part by part. Where the verdict has no finding, each client world in scope that meets none of its collisions keeps what
  -- held with the old release. Where it has one, some client world in scope that meets none of its collisions isn't kept, and whoever names a class
  -- that is gone has the error of its finding. Each part is what it has to be on the records, and for each finding and each collision in what was put there are class files that are read as a client
  -- world in scope, which links whole with the old release, and of which one spot has with the new release the error that was put; those of a finding
  -- meet none of the collisions, and those of a collision meet it
  pub checked : (r.status ≡ PASSED) ⊎ (r.status ≡ NOT_PASSED) → (check : CheckOf) → asked r.words ≡ Ok (CheckCommand check)
      → (report : CheckReport) × Puts r (check_bytes check.json report) × (report.verdict.findings ≡ [] → OfFiles r (λ files. IsCompatible files check report.verdict))
      × (report.verdict.findings ≢ [] → OfFiles r (λ files. IsIncompatible files check report.verdict)) × OfFiles r (λ files. IsBorneOut files check report)
  -- of a check, by its report, which was put: where that has no finding and no warning, which it can have where they are asked for alone, each client class in
  -- scope, abstract or not, that answered with the old release all that was due to it answers all that is due with the new, unless it meets a collision of a method
  -- made final
  pub answered : (r.status ≡ PASSED) ⊎ (r.status ≡ NOT_PASSED) → (check : CheckOf) → asked r.words ≡ Ok (CheckCommand check)
      → (report : CheckReport) × Puts r (check_bytes check.json report)
      × OfFiles r (λ files. IsBorneOut files check report × (report.verdict.findings ≡ [] → report.warnings ≡ Some [] → IsAnswered files check report))
  -- of a check that asks for notes on signatures: its report, which was put, has exactly those on the generic signatures of the two releases
  pub noted : (r.status ≡ PASSED) ⊎ (r.status ≡ NOT_PASSED) → (check : CheckOf) → asked r.words ≡ Ok (CheckCommand check) → IsTrue check.signatures
      → (report : CheckReport) × Puts r (check_bytes check.json report) × OfFiles r (λ files. (notes : List SigNote) × IsNoted files check report notes)
  -- of a check, by its report, which was put: where that has no finding and no dropped interface, which it can have where they are asked for alone, each client
  -- world in scope that meets none of its collisions keeps, above each class that is a client or whose values clients can hold, each interface that clients can name
  pub interfaces : (r.status ≡ PASSED) ⊎ (r.status ≡ NOT_PASSED) → (check : CheckOf) → asked r.words ≡ Ok (CheckCommand check)
      → (report : CheckReport) × Puts r (check_bytes check.json report)
      × OfFiles r (λ files. IsBorneOut files check report × (report.verdict.findings ≡ [] → report.dropped ≡ Some [] → KeepsInterfaces files check report))
  -- of a check, by its report, which was put: it has exactly the lines on calls of the two releases where they are asked for. Where it has no finding, and those lines
  -- without one of a method reference, each client world in scope that meets none of its collisions keeps each method reference that was Ok with the old release and names a
  -- class of a library
  pub called : (r.status ≡ PASSED) ⊎ (r.status ≡ NOT_PASSED) → (check : CheckOf) → asked r.words ≡ Ok (CheckCommand check)
      → (report : CheckReport) × Puts r (check_bytes check.json report)
      × OfFiles r (λ files. IsBorneOut files check report × (report.verdict.findings ≡ [] → IsSomeAnd report.calls TellNoReference → KeepsReferences files check report))
  -- of a check that asks for witnesses: below the path such class files stand for each finding and each collision, by its number, and every other path
  -- is as before
  pub witnessed : (r.status ≡ PASSED) ⊎ (r.status ≡ NOT_PASSED) → (check : CheckOf) → asked r.words ≡ Ok (CheckCommand check) → (dir : Bytes) → check.witness ≡ Some dir
      → (report : CheckReport) × OfFiles r (λ files. HoldsClients files check report.verdict dir r.folder) × Puts r (check_bytes check.json report)
  -- of a check that asks the gate `links` alone, as one that names no gate does: it passes exactly where the verdict in what was put has no finding
  pub unbroken : (r.status ≡ PASSED) ⊎ (r.status ≡ NOT_PASSED) → (check : CheckOf) → asked r.words ≡ Ok (CheckCommand check) → check.gates ≡ codes "links" ∷ [] → HasLinksGate r.gates
      → (report : CheckReport) × Puts r (check_bytes check.json report) × OfFiles r (λ files. IsBorneOut files check report × ((r.status ≡ PASSED) ↔ (report.verdict.findings ≡ [])))
  -- of a check that asks the gate of the versions alone and says both: it passes exactly where the step between them is at least what the findings and
  -- collisions in what was put need
  pub versioned : (r.status ≡ PASSED) ⊎ (r.status ≡ NOT_PASSED) → (check : CheckOf) → asked r.words ≡ Ok (CheckCommand check) → check.gates ≡ codes "version" ∷ []
      → (step : ℕ) → step_of_check check ≡ Some step → HasVersionGate r.gates
      → (report : CheckReport) × Puts r (check_bytes check.json report) × ((r.status ≡ PASSED) ↔ (need_of (rules_of report.verdict) ≤ step))
  -- of a check that asks the gate `calls` alone: it passes exactly where warnings, dropped interfaces and lines on calls are in what was put, and there is none
  pub cleared : (r.status ≡ PASSED) ⊎ (r.status ≡ NOT_PASSED) → (check : CheckOf) → asked r.words ≡ Ok (CheckCommand check) → check.gates ≡ codes "calls" ∷ [] → HasCallsGate r.gates
      → (report : CheckReport) × Puts r (check_bytes check.json report) × ((r.status ≡ PASSED) ↔ IsTrue (is_clear report))
  -- of a row of releases: what was put is the text of the verdicts on each two neighbours. Each step is borne out as a check's two releases are, by its
  -- verdict. Where none has a finding, each client world in scope of the row that meets none of its collisions keeps with the last release what held
  -- with the first
  pub judged : (r.status ≡ PASSED) ⊎ (r.status ≡ NOT_PASSED) → (history : HistoryOf) → asked r.words ≡ Ok (HistoryCommand history)
      → (vs : List Verdict) × Puts r (history_text_of vs) × OfFiles r (λ files. IsKeptRow files history vs) × OfFiles r (λ files. IsBorneOutRow files history vs)
  -- of clients of two releases: what was put is what is said of the clients of each tree, in their order, as text or as JSON: why they aren't linked, or what they lose,
  -- which is exactly each outcome that `link` says to be Ok with the old release and to be an error with the new; and, where that is asked for, with each loss the
  -- number of the first line of the verdict on these two sides that explains it, and these lines. It passes exactly where all are linked, and lose nothing
  pub lost : (r.status ≡ PASSED) ⊎ (r.status ≡ NOT_PASSED) → (clients : ClientsOf) → asked r.words ≡ Ok (ClientsCommand clients)
      → (report : ClientsReport) × Puts r (clients_report_bytes clients.json report) × OfFiles r (λ files. IsTold files clients report) × ((r.status ≡ PASSED) ↔ IsTrue (are_all_kept report.answers))
  -- of help: what was put is its page, and it passes
  pub helped : (r.status ≡ PASSED) ⊎ (r.status ≡ NOT_PASSED) → asked r.words ≡ Ok HelpCommand → (r.status ≡ PASSED) × Puts r help_page
  -- where no witnesses are asked for, nothing was put into the folder
  pub unwitnessed : IfOk (asked r.words) (λ command. witness_dir command ≡ None) → IsUntouched r.folder
  -- the words ask for nothing
  pub usage : r.status ≡ USAGE → IsStopped r
  -- the first class file that is malformed or misplaced, or whose code is refused; the platform's root; a name that the platform and a
  -- release declare; the name of a client that they don't allow
  pub bad_input : r.status ≡ BAD_INPUT → IsStopped r
  -- a call on a tree failed
  pub read_fault : r.status ≡ READ_FAULT → IsStopped r
  -- a tree, a class file or a part of a report past a limit
  pub limit : r.status ≡ LIMIT → IsStopped r
  -- a put failed, into the folder where witnesses are asked for, on the output of a report that was due, or on the error stream of a line that was
  pub write_fault : r.status ≡ WRITE_FAULT → IsCutShort r
  -- there was no memory
  pub no_memory : r.status ≡ NO_MEMORY → IsCutShort r
  -- the witness files are the planned ones, and which of them the folder holds whatever the status
  pub left : Leaves r
  -- what is refused has the status of its first cause, and what isn't has a report, unless a call failed or there was no memory
  pub refused : OfFiles r (λ files. (stop : Stop) → IsRefused r.gates r.words files stop → (r.status ≡ status_of stop) ⊎ HasFailed r.status)
  pub accepted : OfFiles r (λ files. IsAccepted r.gates r.words files → (r.status ≡ PASSED) ⊎ (r.status ≡ NOT_PASSED) ⊎ HasFailed r.status)
  -- the files are as they were
  pub content : r.trees.after.content ≡ r.trees.before.content
