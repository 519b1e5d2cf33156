-- Rising numbers of classes have rising names.
use Rattle.std.proofs.Common.{◌≡◌, ◌<◌, ℕ, zero, suc, List, [], ◌∷◌, length, get_or, map, arith}
use Rattle.std.specs.List.Sorted.{IsStrictlySortedBy}
use Rattle.std.specs.Ordering.{nat_cmp}
use Rattle.std.specs.declared.cmp.Ordering.TheVariants.{Less}
use Rattle.std.proofs.lemmas.Map.Keys.{below_from_sorted}
use Rattle.jc_facts.specs.Exactly.{Before, NamesRise, Rises}
use Rattle.jc_facts.specs.Names.{Bytes}
use Rattle.jc_facts.specs.world.World.{World, size}
use Rattle.jc_facts.proofs.Apart.{each_at}
use Rattle.jc_index.proofs.Numbers.{names-length, names-rise}
use Rattle.jc_lemmas.proofs.Listed.{EachOf}
use Rattle.jc_index.specs.Ids.{name_at, names}
use Rattle.jc_index.specs.Sides.{IsSide}

rises_at : (xs : List Bytes) → NamesRise (λ x. x) xs → (i j : ℕ) → i < j → j < length xs → Before (get_or xs i []) (get_or xs j [])
unfolding Rises
rises_at [] r i j h k = absurd (omega arith)
rises_at (x ∷ xs) r zero zero h k = absurd (omega arith)
rises_at (x ∷ xs) r (suc i) zero h k = absurd (omega arith)
rises_at (x ∷ xs) r zero (suc j) h k = each_at (λ y. Before x y) xs j [] (omega arith) r.0
rises_at (x ∷ xs) r (suc i) (suc j) h k = rises_at xs r.1 i j (omega arith) (omega arith)

less_is : (k q : ℕ) → nat_cmp k q ≡ Less → k < q
unfolding IsStrictlySortedBy
less_is k q h = below_from_sorted (k ∷ q ∷ []) 0 1 0 ((h, tt), (tt, tt)) (omega arith) (omega arith)

module _ (W : World) (side : IsSide W) where
  name_before : (i j : ℕ) → i < j → j < size W → Before (name_at W i) (name_at W j)
  name_before i j h k = rises_at (names W) (names-rise W side.differ) i j h (let e = names-length W in omega arith)

  after : (k : ℕ) (ks : List ℕ) → EachOf (λ q. nat_cmp k q ≡ Less) ks → EachOf (λ q. q < size W) ks → EachOf (λ y. Before (name_at W k) y) (map (name_at W) ks)
  after k [] h b = tt
  after k (q ∷ ks) h b = (name_before k q (less_is k q h.0) b.0, after k ks h.1 b.1)

  pub numbers-rise : (ks : List ℕ) → IsStrictlySortedBy nat_cmp ks → EachOf (λ q. q < size W) ks → NamesRise (λ x. x) (map (name_at W) ks)
  unfolding IsStrictlySortedBy Rises
  numbers-rise [] o b = tt
  numbers-rise (k ∷ ks) o b = (after k ks o.0 b.1, numbers-rise ks o.1 b.1)
