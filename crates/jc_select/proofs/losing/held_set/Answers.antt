use Rattle.std.proofs.Common.{◌==◌, ℕ, List, length, refl, sym, ap, ◌∙◌}
use Rattle.jc_select.specs.steps.Losing.{mark_at}
use Rattle.jc_select.proofs.LostRows.{empty_set, unheld_set}
use Rattle.jc_select.proofs.losing.held_set.Goals as goal

pub returns-then-is_empty : goal.returns-then-is_empty
returns-then-is_empty c =
    empty_set c.args.sides.now c.args.lost.now.rows.items c.requires.lost.rows c.args.id c.requires.id c.new.result c.new.ensures.ordered (λ q. rw c.new.ensures.empty refl)
    (ap (λ (r : List ℕ). length r == 0) (sym c.row-row.ensures) ∙ sym c.is_empty.ensures ∙ c.if-is_empty.true)

pub returns-then-not-found-number : goal.returns-then-not-found-number
returns-then-not-found-number c =
    unheld_set c.args.sides.now c.args.lost.now.rows.items c.requires.lost.rows c.args.id c.requires.id c.new-then-not-found-number.result c.new-then-not-found-number.ensures.ordered (λ q. rw c.new-then-not-found-number.ensures.empty refl)
    (ap (λ (r : List ℕ). length r == 0) (sym c.row-row.ensures) ∙ sym c.is_empty.ensures ∙ c.if-is_empty.false)
    (sym c.is_kept_class-kept.ensures ∙ c.if-not-kept.true)
    (sym (ap (mark_at c.args.found.now) c.number.ensures ∙ c.requires.found.each c.args.id c.requires.id) ∙ c.if-not-found-number.true)
