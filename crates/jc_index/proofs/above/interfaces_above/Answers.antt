use Rattle.std.proofs.Common.{◌<◌, ◌∙◌, List, ℕ, length, sym, ap, subst}
use Rattle.std.specs.List.{All}
use Rattle.jc_index.specs.steps.Reach.{AllLedTo}
use Rattle.jc_index.proofs.Aboves.{rows_exact, edges-within, edges-length}
use Rattle.jc_index.proofs.above.interfaces_above.Goals as goal

pub all_led_to-requires-clause-within : goal.all_led_to-requires-clause-within
all_led_to-requires-clause-within c =
    subst (λ (es : List (List ℕ)). All (λ ids. All (λ id. id < length es) ids) es) (sym (c.as_slice.ensures.value ∙ c.in_ok-edges.ensures.exact)) (edges-within c.args.index.now)

pub all_led_to-requires-clause-few : goal.all_led_to-requires-clause-few
all_led_to-requires-clause-few c =
    subst (λ n. n < 4294967296) (sym (ap length (c.as_slice.ensures.value ∙ c.in_ok-edges.ensures.exact) ∙ edges-length c.args.index.now)) c.in_ok-edges.ensures.few

pub returns : goal.returns
returns c =
    rows_exact c.args.index.now c.in_ok-edges.ensures.differ c.in_ok-rows.rows
    (subst (λ (es : List (List ℕ)). AllLedTo es c.in_ok-rows.rows) (c.as_slice.ensures.value ∙ c.in_ok-edges.ensures.exact) c.in_ok-rows.ensures)
