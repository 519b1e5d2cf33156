use Rattle.std.proofs.Common.{◌≡◌, sym, ◌∙◌, ap, subst, map, List, ℕ}
use Rattle.std.proofs.lemmas.List.{take_all}
use Rattle.jc_facts.specs.Names.{Bytes}
use Rattle.jc_index.specs.steps.Order.{IsOrder}
use Rattle.jc_index.proofs.Places.{sorted_order}
use Rattle.jc_index.proofs.order.sorted.Goals as goal

pub returns : goal.returns
returns c = λ cs differ names places.
    let sorted : List (Bytes × ℕ) = c.sort_by_name.new.places.items in
    let lent : List (Bytes × ℕ) = c.as_slice-place-items.result.now in
    let all : c.loop-place.order.items ≡ map (λ p. p.1) sorted =
    c.loop-place.invariant
    ∙ ap (λ (ps : List (Bytes × ℕ)). map (λ p. p.1) ps) (take_all c.loop-place.place-index lent c.loop-place-test.false ∙ c.as_slice-place-items.ensures.value)
    in
    subst (IsOrder cs) (sym all) (sorted_order cs c.args.places.items sorted differ names places c.sort_by_name.ensures.permutation c.in_ok-sort_by_name.ensures.sorted)
