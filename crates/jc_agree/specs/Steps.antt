-- What `history` says of a step of a row, and what `check` says of the two releases of the step.
--     IsCheckOfStep h check n      the check is of the releases n and n + 1 of the row, from 0, over the row's platform
--     StepsAreChecks      the step is between the two sides of the check, and has its verdict
use Rattle.std.specs.Prelude.{◌≡◌, ℕ, ◌+◌, List, Some, slice_get, IsFalse}
use Rattle.jc_base.specs.Outside.{FileOf}
use Rattle.jc_facts.specs.declared.verdict.Verdict.{Verdict}
use Rattle.jc_history.specs.Row.{steps_of}
use Rattle.jc_words.specs.Command.{CheckOf, HistoryOf}
use Rattle.jc_commands.specs.Check.{CheckRecords, CheckReport, IsVerdictOn, IsBorneOut, old_side, new_side}
use Rattle.jc_commands.specs.History.{HistoryRecords, IsKeptRow, AreVerdictsOn, row_of}

-- ---- a step and a check

-- over one platform, without `--modular`, as a row has no modules
pub record IsCheckOfStep (h : HistoryOf) (check : CheckOf) (n : ℕ) : Type 0 where
  pub platform : check.platform ≡ h.platform
  pub plain : IsFalse check.modular
  pub old : slice_get h.releases n ≡ Some check.old
  pub new : slice_get h.releases (n + 1) ≡ Some check.new

-- the step of the number is between the two sides of the check, and its verdict among these is that on the sides
pub record SaysAsChecked {files : List FileOf} {h : HistoryOf} {check : CheckOf} (row : HistoryRecords files h) (two : CheckRecords files check) (n : ℕ) : Type 0 where
  pub step : slice_get (steps_of (row_of row.platform row.releases)) n ≡ Some (record { old = old_side two; new = new_side two })
  pub verdict : (vs : List Verdict) (v : Verdict) → AreVerdictsOn row.platform row.releases vs → IsVerdictOn (old_side two) (new_side two) v → slice_get vs n ≡ Some v

-- Over the same files the verdict on a step is that of `check` on its two releases.
abbrev pub StepsAreChecks : Type 0
StepsAreChecks = (files : List FileOf) (h : HistoryOf) (check : CheckOf) (n : ℕ) → IsCheckOfStep h check n → (row : HistoryRecords files h) (two : CheckRecords files check) → SaysAsChecked row two n

-- So what bears out the report of the check bears out each printed line of the step.
abbrev pub StepsAreBorneOut : Type 0
StepsAreBorneOut = (files : List FileOf) (h : HistoryOf) (check : CheckOf) (n : ℕ) → IsCheckOfStep h check n → (vs : List Verdict) → IsKeptRow files h vs → (report : CheckReport) → IsBorneOut files check report
    → slice_get vs n ≡ Some report.verdict
