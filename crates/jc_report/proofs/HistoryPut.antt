-- The text of the verdicts on a row of releases, put line by line.
--     next_step      the loop over the steps
--     steps_failed, last_failed, last_put      the steps, and then the last line
use Rattle.std.proofs.Common.{◌≡◌, ◌<◌, ◌+◌, ℕ, true, List, ◌∷◌, ◌++◌, Option, length, drop, get_or, sym, ap, subst, ◌∙◌}
use Rattle.std.proofs.lemmas.List.{at_drop_more}
use Rattle.jc_base.specs.Outside.{TakesAll, TakesFront}
use Rattle.jc_facts.specs.declared.verdict.Verdict.{Verdict}
use Rattle.jc_facts.specs.Names.{Bytes}
use Rattle.jc_report.specs.Text.{text_of}
use Rattle.jc_report.specs.HistoryText.{with_front, step_front, step_lines, last_line_of_history, history_text_of}
use Rattle.jc_report.proofs.Puts.{IsPut, put_nothing, put_more, put_failed, put_all, put_last_failed}

-- the next step's lines come next
pub next_step : (vs : List Verdict) (i : ℕ) (v : Verdict) (total : Bytes) (a b : Option Bytes) → i < length vs → v ≡ get_or vs i v → IsPut a b (step_lines (i + 1) (drop i vs)) total
    → IsPut a b (with_front (step_front (i + 1)) true (text_of v) ++ step_lines (i + 1 + 1) (drop (i + 1) vs)) total
next_step vs i v total a b lt is h =
    subst (λ (t : Bytes). IsPut a b t total) (at_drop_more (step_lines (i + 1)) vs i v lt ∙ ap (λ (w : Verdict). step_lines (i + 1) (w ∷ drop (i + 1) vs)) (sym is)) h

module _ (vs : List Verdict) (a b : Option Bytes) where
  start : IsPut a a (step_lines 1 vs ++ last_line_of_history vs) (history_text_of vs)
  unfolding history_text_of
  start = put_nothing a (history_text_of vs)

  pub steps_failed : TakesFront a b (step_lines 1 vs) → TakesFront a b (history_text_of vs)
  steps_failed h = put_failed a a b (step_lines 1 vs) (last_line_of_history vs) (history_text_of vs) start h

  module _ (c : Option Bytes) (first : TakesAll a b (step_lines 1 vs)) where
    then_last : IsPut a b (last_line_of_history vs) (history_text_of vs)
    then_last = put_more a a b (step_lines 1 vs) (last_line_of_history vs) (history_text_of vs) start first

    pub last_failed : TakesFront b c (last_line_of_history vs) → TakesFront a c (history_text_of vs)
    last_failed h = put_last_failed a b c (last_line_of_history vs) (history_text_of vs) then_last h

    pub last_put : TakesAll b c (last_line_of_history vs) → TakesAll a c (history_text_of vs)
    last_put h = put_all a b c (last_line_of_history vs) (history_text_of vs) then_last h
