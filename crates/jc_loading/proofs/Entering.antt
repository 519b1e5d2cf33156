-- What is known of classes while their load faults are looked for.
use Rattle.std.proofs.Common.{◌≡◌, ℕ, zero, suc, ◌<◌, ◌+◌, ◌≤◌, true, false, List, [], ◌∷◌, ◌++◌, length, take, drop, get_or, refl, sym, ◌∙◌, ap, subst, Option, Some, None, ◌⊎◌, inl, inr, arith}
use Rattle.std.specs.Prelude.{slice_get, is_some}
use Rattle.std.proofs.lemmas.List.{take_more, take_all, drop_more, drop_all, get_or_default}
use Rattle.std.proofs.lemmas.Option.{slice_get_within, get_or_from_slice_get}
use Rattle.jc_facts.specs.declared.class_facts.ClassFacts.{ClassFacts}
use Rattle.jc_facts.specs.declared.link_error.LinkError.{LinkError}
use Rattle.jc_facts.specs.declared.link_error.LinkError.TheVariants.{NoClassDefFoundError, ClassCircularityError}
use Rattle.jc_facts.specs.Names.{Bytes}
use Rattle.jc_facts.specs.Options.{or_else, first_some, and_then}
use Rattle.jc_facts.specs.world.World.{World, find_class, size}
use Rattle.jc_facts.specs.world.Search.{supers}
use Rattle.jc_facts.specs.world.Loading.{fault_of_itself, load_step, fault_at, load_fault}
use Rattle.jc_lemmas.proofs.Listed.{EachOf, EachOf-map}
use Rattle.jc_worlds.proofs.Descent.{descend-absent, descend-none_left, descend-found}
use Rattle.jc_worlds.proofs.Depth.{is_done, fault_at-from, fault_at-deep}
use Rattle.jc_facts.proofs.Options.{first_some-none}
use Rattle.jc_index.specs.Ids.{name_at, id_of}
use Rattle.jc_index.proofs.Numbers.{id-find, is_class}
use Rattle.jc_loading.specs.declared.faults.State.{State}
use Rattle.jc_loading.specs.declared.faults.State.TheVariants as states
use Rattle.jc_loading.specs.steps.Entering.{Leads, AreRight, IsRight, state_of, is_known}

-- ---- the load fault as an equation

-- a class that is there: the first fault above it, and then its own
pub known : (W : World) (x : Bytes) (c : ClassFacts) → find_class W x ≡ Some c → load_fault W x ≡ or_else (first_some (load_fault W) (supers c)) (fault_of_itself W c)
unfolding load_step load_fault
known W x c e =
    let p : fault_at W (suc (size W)) x ≡ or_else (first_some (fault_at W (size W)) (supers c)) (fault_of_itself W c) = descend-found W _ _ (load_step W) (size W) x c e in
    sym (fault_at-deep W (suc (size W)) (omega arith) x) ∙ p

-- ---- lists of names

pub first_some-append : {A : Type 0} (f : Bytes → Option A) (xs ys : List Bytes) → first_some f (xs ++ ys) ≡ or_else (first_some f xs) (first_some f ys)
unfolding first_some or_else
first_some-append {A = A} f [] ys = refl
first_some-append {A = A} f (x ∷ xs) ys = go (f x) (first_some-append f xs ys)
  where
    go : (o : Option A) → first_some f (xs ++ ys) ≡ or_else (first_some f xs) (first_some f ys) → or_else o (first_some f (xs ++ ys)) ≡ or_else (or_else o (first_some f xs)) (first_some f ys)
    go None r = r
    go (Some a) r = refl

-- a list about a place of it
pub around : {A : Type 0} (xs : List A) (n : ℕ) (x : A) → slice_get xs n ≡ Some x → (after : List A) × (xs ≡ take n xs ++ x ∷ after)
around [] n x e = absurd (let clash : None ≡ Some x = e in cc)
around (y ∷ xs) zero x e = (xs, let k : y ≡ x = cc in ap (λ z. z ∷ xs) k)
around (y ∷ xs) (suc n) x e = let r = around xs n x e in (r.0, ap (λ zs. y ∷ zs) r.1)

-- ---- the first of the classes above that doesn't load

pub leads-fault : (W : World) (x : Bytes) (n : ℕ) (s : Bytes) (e : LinkError) → Leads W x n s → load_fault W s ≡ Some e → load_fault W x ≡ Some e
unfolding first_some or_else
leads-fault W x n s e l h =
    let a = around (supers l.class) n s l.next in
    let p : first_some (load_fault W) (supers l.class) ≡ or_else (first_some (load_fault W) (take n (supers l.class))) (first_some (load_fault W) (s ∷ a.0)) =
    ap (λ zs. first_some (load_fault W) zs) a.1 ∙ first_some-append (load_fault W) (take n (supers l.class)) (s ∷ a.0) in
    known W x l.class l.found ∙ rw (p, l.before, h) refl

-- ---- a circle

-- what loads at last, or is not done yet
late : (W : World) (n : ℕ) (x : Bytes) → load_fault W x ≡ None → (fault_at W n x ≡ None) ⊎ (fault_at W n x ≡ Some ClassCircularityError)
late W n x h = go (fault_at W n x) refl
  where
    deep : is_done (fault_at W n x) ≡ true → fault_at W n x ≡ None
    deep d = sym (fault_at-from W n x d (size W) (size W + n) refl) ∙ fault_at-deep W (size W + n) (omega arith) x ∙ h

    go : (o : Option LinkError) → fault_at W n x ≡ o → (o ≡ None) ⊎ (o ≡ Some ClassCircularityError)
    go None e = inl refl
    go (Some ClassCircularityError) e = inr refl
    go (Some k) e = absurd (let p : fault_at W n x ≡ None = deep (rw e refl) in let clash : Some k ≡ None = sym e ∙ p in cc)

first-late : (f : Bytes → Option LinkError) (xs ys : List Bytes) (s : Bytes) → EachOf (λ y. (f y ≡ None) ⊎ (f y ≡ Some ClassCircularityError)) xs → f s ≡ Some ClassCircularityError
    → first_some f (xs ++ s ∷ ys) ≡ Some ClassCircularityError
unfolding first_some or_else
first-late f [] ys s h e = rw e refl
first-late f (x ∷ xs) ys s h e = go (f x) h.0 (first-late f xs ys s h.1 e)
  where
    go : (o : Option LinkError) → (o ≡ None) ⊎ (o ≡ Some ClassCircularityError) → first_some f (xs ++ s ∷ ys) ≡ Some ClassCircularityError → or_else o (first_some f (xs ++ s ∷ ys)) ≡ Some ClassCircularityError
    go None k r = r
    go (Some a) (inl k) r = absurd (cc)
    go (Some a) (inr k) r = k

-- where each class of a set leads to one of the set, none loads, since a cycle is above it
pub circle : (W : World) (S : Bytes → Type 0) → ((x : Bytes) → S x → (n : ℕ) × (s : Bytes) × S s × Leads W x n s) → (x : Bytes) → S x → load_fault W x ≡ Some ClassCircularityError
unfolding load_fault load_step or_else
circle W S lead x h = go (size W) x h
  where
    go : (n : ℕ) (y : Bytes) → S y → fault_at W n y ≡ Some ClassCircularityError
    go zero y k = let l = (lead y k).3 in descend-none_left W _ _ (load_step W) y l.class l.found
    go (suc n) y k =
        let w = lead y k in
        let l = w.3 in
        let a = around (supers l.class) w.0 w.1 l.next in
        let b : EachOf (λ z. (fault_at W n z ≡ None) ⊎ (fault_at W n z ≡ Some ClassCircularityError)) (take w.0 (supers l.class)) =
        EachOf-map (late W n) (take w.0 (supers l.class)) (first_some-none (load_fault W) (take w.0 (supers l.class)) l.before) in
        let p : first_some (fault_at W n) (supers l.class) ≡ Some ClassCircularityError =
        ap (λ zs. first_some (fault_at W n) zs) a.1 ∙ first-late (fault_at W n) (take w.0 (supers l.class)) a.0 w.1 b (go n w.1 w.2) in
        let q : fault_at W (suc n) y ≡ or_else (first_some (fault_at W n) (supers l.class)) (fault_of_itself W l.class) = descend-found W _ _ (load_step W) n y l.class l.found in
        q ∙ rw p refl

-- ---- what is known

-- the fault that is known of the class of a number
pub right_at : (W : World) (ss : List State) (n : ℕ) (x : Bytes) (fault : Option LinkError) → AreRight W ss → name_at W n ≡ x → state_of ss n ≡ states.Known fault → load_fault W x ≡ fault
right_at W ss n x fault r e h =
    let p : IsRight W (name_at W n) (states.Known fault) = subst (λ s. IsRight W (name_at W n) s) h (r.right n) in
    ap (load_fault W) (sym e) ∙ p

pub not-known : (s : State) → (s ≡ states.Fresh) ⊎ (s ≡ states.Entered) → is_known s ≡ false
not-known s (inl e) = ap is_known e
not-known s (inr e) = ap is_known e

-- ---- going over the classes above

-- one more of them loads
pub loads-more : (f : Bytes → Option LinkError) (xs : List Bytes) (n : ℕ) (x : Bytes) → first_some f (take n xs) ≡ None → slice_get xs n ≡ Some x → f x ≡ None → first_some f (take (n + 1) xs) ≡ None
unfolding first_some or_else
loads-more f xs n x h g e =
    let l : n < length xs = slice_get_within xs n x g in
    let t : take (n + 1) xs ≡ take n xs ++ x ∷ [] = take_more xs n x l ∙ ap (λ y. take n xs ++ y ∷ []) (get_or_from_slice_get xs n x x g) in
    ap (first_some f) t ∙ first_some-append f (take n xs) (x ∷ []) ∙ rw (h, e) refl

-- all of them load
pub loads-all : (f : Bytes → Option LinkError) (xs : List Bytes) (n : ℕ) → length xs ≤ n → first_some f (take n xs) ≡ None → first_some f xs ≡ None
loads-all f xs n l h = ap (first_some f) (sym (take_all n xs l)) ∙ h

-- where all above it loads, its own fault decides
pub all-load : (W : World) (x : Bytes) (c : ClassFacts) → find_class W x ≡ Some c → first_some (load_fault W) (supers c) ≡ None → load_fault W x ≡ and_then (fault_of_itself W) (find_class W x)
unfolding or_else and_then
all-load W x c e h = known W x c e ∙ rw (h, e) refl

-- ---- the first fault along a list

first-step : {A : Type 0} (f : Bytes → Option A) (xs : List Bytes) (i : ℕ) → i < length xs → first_some f (drop i xs) ≡ or_else (f (get_or xs i [])) (first_some f (drop (i + 1) xs))
unfolding first_some
first-step f xs i l = ap (first_some f) (drop_more xs i [] l)

pub first-found : {A : Type 0} (f : Bytes → Option A) (xs : List Bytes) (i : ℕ) (x : Bytes) (a : A) → i < length xs → x ≡ get_or xs i x → f x ≡ Some a → first_some f (drop i xs) ≡ Some a
unfolding or_else
first-found f xs i x a l g h =
    let q : get_or xs i [] ≡ x = get_or_default xs i [] x l ∙ sym g in
    first-step f xs i l ∙ rw (q, h) refl

pub first-next : {A : Type 0} (f : Bytes → Option A) (xs : List Bytes) (i : ℕ) (x : Bytes) → i < length xs → x ≡ get_or xs i x → f x ≡ None → first_some f (drop i xs) ≡ first_some f (drop (i + 1) xs)
unfolding or_else
first-next f xs i x l g h =
    let q : get_or xs i [] ≡ x = get_or_default xs i [] x l ∙ sym g in
    first-step f xs i l ∙ rw (q, h) refl

pub first-end : {A : Type 0} (f : Bytes → Option A) (xs : List Bytes) (i : ℕ) → length xs ≤ i → first_some f (drop i xs) ≡ None
unfolding first_some
first-end f xs i l = ap (first_some f) (drop_all i xs l)

-- ---- a search to a depth

pub level-absent : (W : World) (n : ℕ) (x : Bytes) → find_class W x ≡ None → fault_at W n x ≡ Some NoClassDefFoundError
level-absent W n x e = descend-absent W _ _ (load_step W) n x e

level-none : (W : World) (n : ℕ) (x : Bytes) (c : ClassFacts) → n ≡ 0 → find_class W x ≡ Some c → fault_at W n x ≡ Some ClassCircularityError
level-none W n x c z e = ap (λ m. fault_at W m x) z ∙ descend-none_left W _ _ (load_step W) x c e

level-step : (W : World) (m n : ℕ) (x : Bytes) (c : ClassFacts) → m ≡ suc n → find_class W x ≡ Some c → fault_at W m x ≡ or_else (first_some (fault_at W n) (supers c)) (fault_of_itself W c)
unfolding load_step
level-step W m n x c q e = ap (λ k. fault_at W k x) q ∙ descend-found W _ _ (load_step W) n x c e

pub level-fault : (W : World) (m n : ℕ) (x : Bytes) (c : ClassFacts) (at : ℕ) (s : Bytes) (fault : LinkError) → m ≡ suc n → find_class W x ≡ Some c → first_some (fault_at W n) (take at (supers c)) ≡ None → slice_get (supers c) at ≡ Some s → fault_at W n s ≡ Some fault → fault_at W m x ≡ Some fault
unfolding first_some or_else
level-fault W m n x c at s fault q e h g f =
    let a = around (supers c) at s g in
    let p : first_some (fault_at W n) (supers c) ≡ or_else (first_some (fault_at W n) (take at (supers c))) (first_some (fault_at W n) (s ∷ a.0)) =
    ap (λ zs. first_some (fault_at W n) zs) a.1 ∙ first_some-append (fault_at W n) (take at (supers c)) (s ∷ a.0) in
    level-step W m n x c q e ∙ rw (p, h, f) refl

pub level-own : (W : World) (m n : ℕ) (x : Bytes) (c : ClassFacts) (at : ℕ) → m ≡ suc n → find_class W x ≡ Some c → length (supers c) ≤ at → first_some (fault_at W n) (take at (supers c)) ≡ None → fault_at W m x ≡ fault_of_itself W c
unfolding or_else
level-own W m n x c at q e l h = level-step W m n x c q e ∙ ap (λ o. or_else o (fault_of_itself W c)) (loads-all (fault_at W n) (supers c) at l h)

pub level-zero : (W : World) (n : ℕ) (x : Bytes) (id : ℕ) → n ≡ 0 → id_of W x ≡ Some id → fault_at W n x ≡ Some ClassCircularityError
level-zero W n x id z e =
    let c = is_class W x (sym (id-find W x) ∙ ap is_some e) in
    level-none W n x c.facts z c.found
