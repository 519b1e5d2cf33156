-- The lowest of names, found one after the other.
use Rattle.std.proofs.Common.{◌≡◌, ℕ, ◌+◌, ◌<◌, ◌≤◌, ◌&&◌, Bool, true, false, cond, List, [], ◌∷◌, drop, length, get_or, refl, sym, ◌∙◌, ap, subst, Option, Some, None, ◌⊎◌, inl, inr}
use Rattle.std.proofs.lemmas.Cmp.{nat_list_cmp_total}
use Rattle.std.proofs.lemmas.List.Sorted.{ranks_by}
use Rattle.std.proofs.lemmas.List.{at_drop_more, at_drop_all}
use Rattle.jc_facts.specs.declared.class_facts.Member.{Member}
use Rattle.jc_facts.specs.Names.{Bytes}
use Rattle.jc_desc.specs.Names.{is_init_name}
use Rattle.jc_facts.specs.world.Inheritance.{public_or_protected}
use Rattle.jc_facts.specs.ByName.{lower}
use Rattle.jc_promises.specs.plan.PlannedNames.{least_name, constructors}
use Rattle.jc_index.proofs.NameSets.{less, irreflexive, neither}

-- ---- of two and of three

-- m is one of the two, and neither is less
record IsLower (m x y : Bytes) : Type 0 where
  first : less x m ≡ false
  second : less y m ≡ false
  one : (m ≡ x) ⊎ (m ≡ y)

lower_is : (x y : Bytes) → IsLower (lower x (Some y)) x y
lower_is x y = go (less y x) refl
  where
    go : (b : Bool) → less y x ≡ b → IsLower (cond b y x) x y
    go true e = record { first = (ranks_by nat_list_cmp_total (λ (z : Bytes). z)).one_way y x e; second = irreflexive y; one = inr refl }
    go false e = record { first = irreflexive x; second = e; one = inl refl }

-- m is one of the three, and none is less
record IsLowest (m x y z : Bytes) : Type 0 where
  first : less x m ≡ false
  second : less y m ≡ false
  third : less z m ≡ false
  one : (m ≡ x) ⊎ ((m ≡ y) ⊎ (m ≡ z))

-- none of the three is less than what none of them is less than
not_less : (m n x y z : Bytes) → IsLowest m x y z → IsLowest n x y z → less m n ≡ false
not_less m n x y z a b = go a.one
  where
    go : (m ≡ x) ⊎ ((m ≡ y) ⊎ (m ≡ z)) → less m n ≡ false
    go (inl e) = subst (λ w. less w n ≡ false) (sym e) b.first
    go (inr (inl e)) = subst (λ w. less w n ≡ false) (sym e) b.second
    go (inr (inr e)) = subst (λ w. less w n ≡ false) (sym e) b.third

one_lowest : (m n x y z : Bytes) → IsLowest m x y z → IsLowest n x y z → m ≡ n
one_lowest m n x y z a b = neither m n (not_less m n x y z a b) (not_less n m x y z b a)

not_before : (x y z : Bytes) → less x y ≡ false → less y z ≡ false → less x z ≡ false
not_before x y z h k = (ranks_by nat_list_cmp_total (λ (w : Bytes). w)).chain x y z h k

-- the lower of x and c, and then of that and d
left_first : (x c d : Bytes) → IsLowest (lower (lower x (Some c)) (Some d)) x c d
left_first x c d = record {
  first = not_before x (lower x (Some c)) _ i.first o.first;
  second = not_before c (lower x (Some c)) _ i.second o.first;
  third = o.second;
  one = go o.one i.one;
}
  where
    i : IsLower (lower x (Some c)) x c
    i = lower_is x c

    o : IsLower (lower (lower x (Some c)) (Some d)) (lower x (Some c)) d
    o = lower_is (lower x (Some c)) d

    go : {m n : Bytes} → (m ≡ n) ⊎ (m ≡ d) → (n ≡ x) ⊎ (n ≡ c) → (m ≡ x) ⊎ ((m ≡ c) ⊎ (m ≡ d))
    go (inl e) (inl f) = inl (e ∙ f)
    go (inl e) (inr f) = inr (inl (e ∙ f))
    go (inr e) q = inr (inr e)

-- the lower of c and of the lower of x and d
right_first : (x c d : Bytes) → IsLowest (lower c (Some (lower x (Some d)))) x c d
right_first x c d = record {
  first = not_before x (lower x (Some d)) _ i.first o.second;
  second = o.first;
  third = not_before d (lower x (Some d)) _ i.second o.second;
  one = go o.one i.one;
}
  where
    i : IsLower (lower x (Some d)) x d
    i = lower_is x d

    o : IsLower (lower c (Some (lower x (Some d)))) c (lower x (Some d))
    o = lower_is c (lower x (Some d))

    go : {m n : Bytes} → (m ≡ c) ⊎ (m ≡ n) → (n ≡ x) ⊎ (n ≡ d) → (m ≡ x) ⊎ ((m ≡ c) ⊎ (m ≡ d))
    go (inl e) q = inr (inl e)
    go (inr e) (inl f) = inl (e ∙ f)
    go (inr e) (inr f) = inr (inr (e ∙ f))

lower_either_way : (x c : Bytes) → lower x (Some c) ≡ lower c (Some x)
lower_either_way x c = neither (lower x (Some c)) (lower c (Some x)) (go (lower_is x c).one (lower_is c x)) (go (lower_is c x).one (lower_is x c))
  where
    go : {m n x c : Bytes} → (m ≡ x) ⊎ (m ≡ c) → IsLower n c x → less m n ≡ false
    go {m} {n} (inl e) i = subst (λ w. less w n ≡ false) (sym e) i.second
    go {m} {n} (inr e) i = subst (λ w. less w n ≡ false) (sym e) i.first

-- ---- one after the other

-- the lower of what was found so far and of what is found of the rest
abbrev pub joined : Option Bytes → Option Bytes → Option Bytes
joined None o = o
joined (Some x) o = Some (lower x o)

pub joined_end : (b : Option Bytes) → joined b None ≡ b
joined_end None = refl
joined_end (Some x) = refl

joined_next : (x : Bytes) (b o : Option Bytes) → joined (Some (lower x b)) o ≡ joined b (Some (lower x o))
joined_next x None o = refl
joined_next x (Some c) None = ap (λ (z : Bytes). Some z) (lower_either_way x c)
joined_next x (Some c) (Some d) = ap (λ (z : Bytes). Some z) (one_lowest _ _ x c d (left_first x c d) (right_first x c d))

-- one more name, where it counts
pub joined_where : (t : Bool) (x : Bytes) (b o : Option Bytes) → joined (cond t (Some (lower x b)) b) o ≡ joined b (cond t (Some (lower x o)) o)
joined_where true x b o = joined_next x b o
joined_where false x b o = refl

-- what is found of a list of things, of which some count by their names
module _ {X : Type 0} (found : List X → Option Bytes) (name : X → Bytes) (counts : X → Bool) (first : (x : X) (xs : List X) → found (x ∷ xs) ≡ cond (counts x) (Some (lower (name x) (found xs))) (found xs)) where
  pub found_next : (xs : List X) (i : ℕ) (x : X) (t : Bool) (b c goal : Option Bytes) → i < length xs → x ≡ get_or xs i x → t ≡ counts x → c ≡ cond t (Some (lower (name x) b)) b
      → joined b (found (drop i xs)) ≡ goal → joined c (found (drop (i + 1) xs)) ≡ goal
  found_next xs i x t b c goal l at e f h = ap (λ z. joined z rest) f ∙ joined_where t (name x) b rest ∙ sym (ap (joined b) step) ∙ h
    where
      rest : Option Bytes
      rest = found (drop (i + 1) xs)

      step : found (drop i xs) ≡ cond t (Some (lower (name x) rest)) rest
      step = at_drop_more found xs i x l ∙ ap (λ z. found (z ∷ drop (i + 1) xs)) (sym at) ∙ first x (drop (i + 1) xs) ∙ ap (λ z. cond z (Some (lower (name x) rest)) rest) (sym e)

  pub found_end : (xs : List X) (i : ℕ) (b goal : Option Bytes) → found [] ≡ None → length xs ≤ i → joined b (found (drop i xs)) ≡ goal → b ≡ goal
  found_end xs i b goal e l h = sym (joined_end b) ∙ ap (joined b) (sym e ∙ sym (at_drop_all found xs i l)) ∙ h

-- ---- names that pass a test

pub name_first : (test : Bytes → Bool) (x : Bytes) (xs : List Bytes) → least_name test (x ∷ xs) ≡ cond (test x) (Some (lower x (least_name test xs))) (least_name test xs)
unfolding least_name
name_first test x xs = refl

pub no_name : (test : Bytes → Bool) → least_name test [] ≡ None
unfolding least_name
no_name test = refl

-- tests that agree find one name
pub tests_alike : (p q : Bytes → Bool) → ((x : Bytes) → p x ≡ q x) → (xs : List Bytes) → least_name p xs ≡ least_name q xs
unfolding least_name
tests_alike p q h [] = refl
tests_alike p q h (x ∷ xs) = rw (h x, tests_alike p q h xs) refl

-- ---- constructors

pub constructor_first : (m : Member) (ms : List Member) → least_name (λ d. true) (constructors (m ∷ ms))
    ≡ cond (is_init_name m.name && public_or_protected m) (Some (lower m.descriptor (least_name (λ d. true) (constructors ms)))) (least_name (λ d. true) (constructors ms))
unfolding least_name constructors
constructor_first m ms = go (is_init_name m.name && public_or_protected m)
  where
    go : (b : Bool) → least_name (λ d. true) (cond b (m.descriptor ∷ constructors ms) (constructors ms)) ≡ cond b (Some (lower m.descriptor (least_name (λ d. true) (constructors ms)))) (least_name (λ d. true) (constructors ms))
    go true = refl
    go false = refl

pub no_constructor : least_name (λ d. true) (constructors []) ≡ None
unfolding least_name constructors
no_constructor = refl
