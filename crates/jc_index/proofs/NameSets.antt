-- Searches in names that are sorted.
use Rattle.std.proofs.Common.{◌≡◌, ◌<◌, ◌≤◌, ℕ, Bool, true, false, List, [], length, get_or, refl, sym, ◌∙◌, ap, subst, ◌⊎◌, inl, inr, arith, Ordering}
use Rattle.std.specs.Ordering.{is_lt, is_eq, ordering_reverse}
use Rattle.std.specs.declared.cmp.Ordering.TheVariants.{Less, Equal, Greater}
use Rattle.std.specs.List.{list_any, Any}
use Rattle.std.specs.List.Sorted.{IsSorted, IsPartitionPoint, IsPartitionedBy}
use Rattle.std.proofs.lemmas.List.Sorted.{sorted_far, ranks_by}
use Rattle.std.proofs.lemmas.List.Folds.{Any-from_list_any, list_any_at}
use Rattle.std.proofs.lemmas.List.{get_or_default}
use Rattle.std.proofs.lemmas.Map.Text.{is_eq-slice_cmp}
use Rattle.std.proofs.lemmas.Cmp.{nat_list_cmp_total}
use Rattle.jc_facts.specs.Names.{Bytes, same}
use Rattle.jc_facts.specs.Exactly.{name_order}
use Rattle.jc_facts.proofs.Same.{same_is, same_itself}
use Rattle.std.proofs.lemmas.Bool.{cases_lt}
use Rattle.std.specs.Cmp.{both_ways}

-- x is less than y
abbrev pub less : Bytes → Bytes → Bool
less x y = is_lt (name_order x y)

-- no name is less than itself
pub irreflexive : (x : Bytes) → less x x ≡ false
irreflexive x = go (less x x) refl
  where
    go : (r : Bool) → less x x ≡ r → less x x ≡ false
    go false e = e
    go true e = absurd (let c : true ≡ false = sym e ∙ (ranks_by nat_list_cmp_total (λ (y : Bytes). y)).one_way x x e in cc)

-- neither is less: they are one
pub neither : (x y : Bytes) → less x y ≡ false → less y x ≡ false → x ≡ y
neither x y h k = go (name_order x y) refl
  where
    go : (r : Ordering) → name_order x y ≡ r → x ≡ y
    go Less e = absurd (let c : true ≡ false = sym (ap is_lt e) ∙ h in cc)
    go Equal e = same_is x y (sym (is_eq-slice_cmp x y) ∙ ap is_eq e)
    go Greater e = absurd (let c : true ≡ false = sym (ap is_lt (nat_list_cmp_total.antisymm y x ∙ ap ordering_reverse e)) ∙ k in cc)

-- no name that is less comes after one that isn't
pub parted : (b : Bytes) (xs : List Bytes) → IsSorted name_order xs → IsPartitionedBy (λ x. less x b) xs
parted b xs s i j d h k e = go (less (get_or xs i d) b) refl
  where
    go : (r : Bool) → less (get_or xs i d) b ≡ r → less (get_or xs i d) b ≡ true
    go true q = q
    go false q =
        let o = ranks_by nat_list_cmp_total (λ (x : Bytes). x) in
        let far : less (get_or xs j d) (get_or xs i d) ≡ false = sorted_far less o xs s i j d h k in
        let no : less (get_or xs j d) b ≡ false = o.chain (get_or xs j d) (get_or xs i d) b far q in
        absurd (let c : true ≡ false = sym e ∙ no in cc)

-- a test that nothing less than b passes, and that whatever stands between b and something that passes does too
module _ (b : Bytes) (t : Bytes → Bool) (low : (y : Bytes) → less y b ≡ true → t y ≡ false)
    (down : (x y : Bytes) → less x b ≡ false → less y x ≡ false → t y ≡ true → t x ≡ true) where
  module _ (xs : List Bytes) (i : ℕ) (s : IsSorted name_order xs) (p : IsPartitionPoint (λ x. less x b ≡ true) (λ x. less x b ≡ false) xs i) where
    first_passes : i < length xs → Any (λ x. t x ≡ true) xs → t (get_or xs i []) ≡ true
    first_passes inside a = by (cases_lt a.0 i)
      where
        named : t (get_or xs a.0 []) ≡ true
        named = ap t (get_or_default xs a.0 [] a.1 a.2 ∙ a.3) ∙ a.4

        by : (a.0 < i) ⊎ (i ≤ a.0) → t (get_or xs i []) ≡ true
        by (inl l) = absurd (let c : true ≡ false = sym named ∙ low (get_or xs a.0 []) (p.0 a.0 [] (omega arith) l) in cc)
        by (inr l) = down (get_or xs i []) (get_or xs a.0 []) (p.1 i [] (omega arith) inside)
            (sorted_far less (ranks_by nat_list_cmp_total (λ (x : Bytes). x)) xs s i a.0 [] l a.2) named

    none_past : length xs ≤ i → Any (λ x. t x ≡ true) xs → false ≡ true
    none_past past a = sym (low (get_or xs a.0 []) (p.0 a.0 [] (omega arith) (let l = a.2 in omega arith))) ∙ ap t (get_or_default xs a.0 [] a.1 a.2 ∙ a.3) ∙ a.4

    -- some name passes exactly where the first that isn't less than b does
    pub any_there : i < length xs → (x : Bytes) → get_or xs i x ≡ x → list_any t xs ≡ t x
    any_there inside x e =
        let is : get_or xs i [] ≡ x = get_or_default xs i [] x inside ∙ e in
        subst (λ (z : Bytes). list_any t xs ≡ t z) is
        (both_ways (list_any t xs) (t (get_or xs i [])) (λ h. first_passes inside (Any-from_list_any t xs h)) (list_any_at t xs i [] inside))

    -- and none does where there is none
    pub any_past : length xs ≤ i → list_any t xs ≡ false
    any_past past = both_ways (list_any t xs) false (λ h. none_past past (Any-from_list_any t xs h)) (λ h. absurd (cc))

-- ---- the name itself

same_low : (b y : Bytes) → less y b ≡ true → same y b ≡ false
same_low b y h = go (same y b) refl
  where
    go : (r : Bool) → same y b ≡ r → same y b ≡ false
    go false e = e
    go true e =
        let q : y ≡ b = same_is y b e in
        let l : less b b ≡ true = subst (λ (z : Bytes). less z b ≡ true) q h in
        absurd (let c : true ≡ false = sym l ∙ irreflexive b in cc)

same_down : (b x y : Bytes) → less x b ≡ false → less y x ≡ false → same y b ≡ true → same x b ≡ true
same_down b x y h k e =
    let q : y ≡ b = same_is y b e in
    let l : less b x ≡ false = subst (λ (z : Bytes). less z x ≡ false) q k in
    subst (λ (z : Bytes). same x z ≡ true) (neither x b h l) (same_itself x)

module _ (b : Bytes) (xs : List Bytes) (i : ℕ) (s : IsSorted name_order xs) (p : IsPartitionPoint (λ x. less x b ≡ true) (λ x. less x b ≡ false) xs i) where
  pub has_there : i < length xs → (x : Bytes) → get_or xs i x ≡ x → list_any (λ y. same y b) xs ≡ same x b
  has_there = any_there b (λ y. same y b) (same_low b) (same_down b) xs i s p

  pub has_past : length xs ≤ i → list_any (λ y. same y b) xs ≡ false
  has_past = any_past b (λ y. same y b) (same_low b) (same_down b) xs i s p
