-- Two runs over the same gates, words and files.
--     OneAnswer      where both answer, they answer alike
use Rattle.std.specs.Prelude.{◌≡◌, ◌⊎◌, List, Some}
use Rattle.jc_base.specs.Outside.{FileOf}
use Rattle.jc_facts.specs.Names.{Bytes}
use Rattle.jc_releases.specs.declared.status.TheConstants.{PASSED, NOT_PASSED}
use Rattle.jcompat.specs.Answers.{Ran, Answers, Puts}

-- they have the same gates and words, and are told the same files
pub record AskAlike (r s : Ran) : Type 0 where
  pub gates : r.gates ≡ s.gates
  pub words : r.words ≡ s.words
  pub files : List FileOf
  pub first_told : r.trees.before.content ≡ Some files
  pub second_told : s.trees.before.content ≡ Some files

-- the run put a report
abbrev pub HasAnswered : Ran → Type 0
HasAnswered r = (r.status ≡ PASSED) ⊎ (r.status ≡ NOT_PASSED)

-- they have one status, and both put the same bytes
pub record AnswerAlike (r s : Ran) : Type 0 where
  pub status : r.status ≡ s.status
  pub bytes : Bytes
  pub first_puts : Puts r bytes
  pub second_puts : Puts s bytes

-- Two runs that ask the same and answer have one answer: beside it each may only have failed, or wanted memory.
abbrev pub OneAnswer : Type 0
OneAnswer = (r s : Ran) → Answers r → Answers s → AskAlike r s → HasAnswered r → HasAnswered s → AnswerAlike r s
