use Rattle.std.proofs.Common.{◌≡◌, ◌<◌, ◌+◌, ◌++◌, ℕ, List, length, map, sym, ◌∙◌, ap, subst}
use Rattle.std.specs.List.{All}
use Rattle.jc_facts.specs.declared.class_facts.ClassFacts.{ClassFacts}
use Rattle.jc_facts.specs.Names.{Bytes}
use Rattle.jc_facts.specs.world.World.{World, classes}
use Rattle.jc_index.specs.steps.Order.{IsOrder, place_after}
use Rattle.jc_index.proofs.Merged.{first_inside, second_inside, merged_order}
use Rattle.jc_index.proofs.order.merged.Goals as goal

pub add_ordered-requires : goal.add_ordered-requires
add_ordered-requires c = first_inside c.args.side.now c.order.result.now (subst (λ (cs : List ClassFacts). IsOrder cs c.order.result.now) c.platform-platform.ensures c.order.ensures)

pub add_ordered-requires-2 : goal.add_ordered-requires-2
add_ordered-requires-2 c =
    let W : World = c.args.side.now in
    subst (λ (n : ℕ). All (λ at. n + at < length (classes W)) c.order-2.result.now) (sym (ap length (c.classes.ensures ∙ c.platform-platform.ensures)))
    (second_inside W c.order-2.result.now (subst (λ (cs : List ClassFacts). IsOrder cs c.order-2.result.now) c.beside-beside.ensures c.order-2.ensures))

pub returns : goal.returns
returns c =
    let W : World = c.args.side.now in
    let first : List ℕ = c.order.result.now in
    let second : List ℕ = c.order-2.result.now in
    let begun : c.add_ordered.new.places.items ≡ map (place_after (classes W) 0) first =
    ◌∙◌ {A = List (Bytes × ℕ)} c.in_ok-add_ordered.ensures (ap (λ (xs : List (Bytes × ℕ)). xs ++ map (place_after (classes W) 0) first) c.in_ok-places.ensures.items)
    in
    let placed : c.add_ordered-2.new.places.items ≡ map (place_after (classes W) 0) first ++ map (place_after (classes W) (length W.platform)) second =
    ◌∙◌ {A = List (Bytes × ℕ)} c.in_ok-add_ordered-2.ensures
    (ap (λ (xs : List (Bytes × ℕ)). xs ++ map (place_after (classes W) (length c.classes.result.now)) second) begun
    ∙ ap (λ (n : ℕ). map (place_after (classes W) 0) first ++ map (place_after (classes W) n) second) (ap length (c.classes.ensures ∙ c.platform-platform.ensures)))
    in
    merged_order W c.requires first second
    (subst (λ (cs : List ClassFacts). IsOrder cs first) c.platform-platform.ensures c.order.ensures) (subst (λ (cs : List ClassFacts). IsOrder cs second) c.beside-beside.ensures c.order-2.ensures)
    c.in_ok-order.order.items c.add_ordered-2.new.places.items placed c.in_ok-order.ensures
