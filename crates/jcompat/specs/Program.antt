-- The program's own gates, and what is promised of a run with them.
use Rattle.std.specs.Prelude.{◌≡◌, ◌≤◌, ◌⊎◌, ◌↔◌, ℕ, IsTrue, List, [], ◌∷◌, Some, Ok, codes}
use Rattle.jc_base.specs.States.{TreesState, SinkState, FolderState, Change}
use Rattle.jc_gate.specs.Gates.{GateOf}
use Rattle.jc_gate.specs.Meanings.{IsGateBy, IsCallsGate, has_no_finding, has_no_collision, has_at_most}
use Rattle.jc_version.specs.Needs.{IsVersionGate, need_of}
use Rattle.jc_commands.specs.Check.{CheckReport, IsBorneOut, check_bytes}
use Rattle.jc_releases.specs.Command.{step_of_check}
use Rattle.jc_words.specs.Command.{CheckOf, CheckCommand, asked}
use Rattle.jc_words.specs.declared.usage.Usage.TheVariants as usages
use Rattle.jc_commands.specs.Outputs.{IsUntouched}
use Rattle.jc_commands.specs.Putting.{IsPutWith}
use Rattle.jc_commands.specs.Reports.{rules_of, is_clear}
use Rattle.jc_releases.specs.Stop.{line_of}
use Rattle.jc_releases.specs.declared.status.TheConstants.{PASSED, NOT_PASSED, USAGE}
use Rattle.jc_releases.specs.declared.stop.Stop.TheVariants as stops
use Rattle.jcompat.specs.Answers.{Ran, Answers, OfFiles, Puts}

-- the gates are `links`, `collisions`, `few`, which lets ten findings and collisions pass, `version` and `calls`, each by what it answers
abbrev pub AreProgramGates : List GateOf → Type 0
AreProgramGates (links ∷ collisions ∷ few ∷ version ∷ calls ∷ []) =
    IsGateBy (codes "links") has_no_finding links × IsGateBy (codes "collisions") has_no_collision collisions × IsGateBy (codes "few") (has_at_most 10) few × IsVersionGate version
    × IsCallsGate calls
AreProgramGates _ = ⊥

-- what is promised of a run with these gates, beside what is promised of each run
pub record OwnAnswers (r : Ran) : Type 0 where
  pub gates : AreProgramGates r.gates
  pub answers : Answers r
  -- of a check that asks the gate `links` alone, as one that names no gate does: it passes exactly where the verdict in what was put has no finding
  pub unbroken : (r.status ≡ PASSED) ⊎ (r.status ≡ NOT_PASSED) → (check : CheckOf) → asked r.words ≡ Ok (CheckCommand check) → check.gates ≡ codes "links" ∷ []
      → (report : CheckReport) × Puts r (check_bytes check.json report) × OfFiles r (λ files. IsBorneOut files check report × ((r.status ≡ PASSED) ↔ (report.verdict.findings ≡ [])))
  -- of a check that asks the gate of the versions alone and says both: it passes exactly where the step between them is at least what the findings and
  -- collisions in what was put need
  pub versioned : (r.status ≡ PASSED) ⊎ (r.status ≡ NOT_PASSED) → (check : CheckOf) → asked r.words ≡ Ok (CheckCommand check) → check.gates ≡ codes "version" ∷ []
      → (step : ℕ) → step_of_check check ≡ Some step
      → (report : CheckReport) × Puts r (check_bytes check.json report) × ((r.status ≡ PASSED) ↔ (need_of (rules_of report.verdict) ≤ step))
  -- of a check that asks the gate `calls` alone: it passes exactly where warnings, dropped interfaces and lines on calls are in what was put, and there is none
  pub cleared : (r.status ≡ PASSED) ⊎ (r.status ≡ NOT_PASSED) → (check : CheckOf) → asked r.words ≡ Ok (CheckCommand check) → check.gates ≡ codes "calls" ∷ []
      → (report : CheckReport) × Puts r (check_bytes check.json report) × ((r.status ≡ PASSED) ↔ IsTrue (is_clear report))

-- no call was made on the trees, on a sink or on the folder
pub record IsIdle (trees : Change TreesState) (out err : Change SinkState) (folder : Change FolderState) : Type 0 where
  pub trees_are : trees.after ≡ trees.before
  pub output : out.after ≡ out.before
  pub errors : err.after ≡ err.before
  pub folder_is : IsUntouched folder

-- a word isn't UTF-8: the line `usage: words` was put to the error stream, with its status; or that put failed, or there was no memory. No other call was made
pub record IsNoText (trees : Change TreesState) (out err : Change SinkState) (folder : Change FolderState) (status : ℕ) : Type 0 where
  pub line : IsPutWith (line_of (stops.Usage usages.Words)) USAGE err status
  pub trees_are : trees.after ≡ trees.before
  pub output : out.after ≡ out.before
  pub folder_is : IsUntouched folder
