use Rattle.std.proofs.Common.{ℕ, List, ◌∷◌, [], ◌++◌, sym, ap, ◌∙◌, append_assoc}
use Rattle.std.proofs.lemmas.List.{append-nil}
use Rattle.jc_select.proofs.dropped.common.Goals as goal

pub loop-id-init : goal.loop-id-init
loop-id-init c = sym (c.into_iter-id-iterator.ensures.into_iter_gives ∙ c.intersection-id-items.ensures.rest) ∙ ap (λ (xs : List ℕ). xs ++ c.into_iter-id-iterator.result) (sym c.new-ids.ensures.items)

pub loop-id-preserved : goal.loop-id-preserved
loop-id-preserved c =
    c.loop-id.invariant ∙ ap (λ (ks : List ℕ). c.loop-id.ids.items ++ ks) c.in-Some.ensures.steps ∙ sym (append_assoc c.loop-id.ids.items (c.in-Some.id.now ∷ []) c.next.new.self)
    ∙ ap (λ (ks : List ℕ). ks ++ c.next.new.self) (sym c.in_ok-push.ensures.items)

pub returns : goal.returns
returns c = sym (c.loop-id.invariant ∙ ap (λ (ks : List ℕ). c.loop-id.ids.items ++ ks) c.in-None.ensures.steps.0 ∙ append-nil c.loop-id.ids.items)
