-- The keys of final instance methods, as they are collected.
use Rattle.std.proofs.Common.{◌≡◌, ◌≢◌, ℕ, zero, suc, ◌<◌, ◌+◌, Bool, true, false, cond, List, [], ◌∷◌, ◌++◌, map, refl, sym, ◌∙◌, ap, subst, Option, Some, None, ◌⊎◌, inl, inr, arith, eqb, length, get_or, set}
use Rattle.std.specs.Prelude.{IfSome}
use Rattle.std.specs.List.{filter, find as first_where}
use Rattle.std.proofs.lemmas.Bool.Decides.{eqb_tells}
use Rattle.jc_facts.specs.declared.class_facts.ClassFacts.{ClassFacts}
use Rattle.jc_facts.specs.declared.class_facts.Member.{Member}
use Rattle.jc_facts.specs.declared.key.Key.{Key}
use Rattle.jc_facts.specs.Names.{key_of, is_key, same_key}
use Rattle.jc_facts.specs.Options.{some_and}
use Rattle.jc_facts.specs.file.Valid.{has_key}
use Rattle.std.proofs.lemmas.List.{length-set, get_or-set_same, get_or-set_other}
use Rattle.jc_facts.proofs.Keys.{flip}
use Rattle.std.proofs.lemmas.List.Folds.{list_any-append}
use Rattle.jc_index.specs.steps.Walking.{is_final_instance, declares_final_instance, final_keys_where, marked_with, AreMarked}
use Rattle.std.proofs.lemmas.Bool.{or_parts}

-- ---- the keys are all

key-same : (k : Key) (m : Member) → is_key k m ≡ same_key k (key_of m)
key-same k m = flip (key_of m) k

-- a key that none of them has is no key of a final instance method
unfixed-methods : (k : Key) (ms : List Member) → has_key k (map key_of (filter is_final_instance ms)) ≡ false → some_and is_final_instance (first_where (is_key k) ms) ≡ false
unfixed-methods k [] h = refl
unfixed-methods k (m ∷ ms) h = go (is_key k m) (is_final_instance m) refl refl h (unfixed-methods k ms)
  where
    go : (i f : Bool) → is_key k m ≡ i → is_final_instance m ≡ f → has_key k (map key_of (cond f (m ∷ filter is_final_instance ms) (filter is_final_instance ms))) ≡ false → (has_key k (map key_of (filter is_final_instance ms)) ≡ false → some_and is_final_instance (first_where (is_key k) ms) ≡ false)
        → some_and is_final_instance (cond i (Some m) (first_where (is_key k) ms)) ≡ false
    go true true p q r s = absurd (let o = or_parts (same_key k (key_of m)) (has_key k (map key_of (filter is_final_instance ms))) r in let t : same_key k (key_of m) ≡ true = sym (key-same k m) ∙ p in let u : same_key k (key_of m) ≡ false = o.0 in cc)
    go true false p q r s = q
    go false true p q r s = s (or_parts (same_key k (key_of m)) (has_key k (map key_of (filter is_final_instance ms))) r).1
    go false false p q r s = s r

-- the keys of the first n classes, of those that are marked, where `at` gives the class of a number
module _ (at : ℕ → Option ClassFacts) (marks : List Bool) where
  abbrev pub AreOfFirst : ℕ → List Key → Type 0
  AreOfFirst n ks = (m : ℕ) → m < n → (c : ClassFacts) → at m ≡ Some c → get_or marks m false ≡ true → (k : Key) → has_key k ks ≡ false → declares_final_instance k c ≡ false

  -- one class more is done
  pub finals-more : (ks : List Key) (n : ℕ) (marked : Bool) (c : ClassFacts) → AreOfFirst n ks → Some c ≡ at n → marked ≡ get_or marks n false → AreOfFirst (n + 1) (ks ++ final_keys_where marked c)
  finals-more ks n marked c h f r m l d e t k a = go (eqb_tells m n)
    where
      own : List Key
      own = map key_of (filter is_final_instance c.methods)

      parts : (has_key k ks ≡ false) × (has_key k (final_keys_where marked c) ≡ false)
      parts = or_parts (has_key k ks) (has_key k (final_keys_where marked c)) (sym (list_any-append (same_key k) ks (final_keys_where marked c)) ∙ a)

      go : ((eqb m n ≡ true) × (m ≡ n)) ⊎ ((eqb m n ≡ false) × (m ≢ n)) → declares_final_instance k d ≡ false
      go (inl q) =
          let same : Some d ≡ Some c = sym e ∙ ap at q.1 ∙ sym f in
          let is : d ≡ c = cc in
          let set : marked ≡ true = r ∙ ap (λ j. get_or marks j false) (sym q.1) ∙ t in
          ap (declares_final_instance k) is ∙ unfixed-methods k c.methods (ap (λ (b : Bool). has_key k (cond b own [])) (sym set) ∙ parts.1)
      go (inr q) = let ne : m ≢ n = q.1 in h m (omega arith) d e t k parts.0

-- ---- marks

-- a mark that is set is one of the list
set-inside : (marks : List Bool) (k : ℕ) → get_or marks k false ≡ true → k < length marks
set-inside [] k h = absurd (let clash : false ≡ true = h in cc)
set-inside (b ∷ marks) zero h = omega arith
set-inside (b ∷ marks) (suc k) h = let l = set-inside marks k h in omega (arith, l)

module _ (next : ℕ → Option ℕ) (many : ℕ) where
  -- no class is done
  pub unmarked : (marks : List Bool) → length marks ≡ many → AreMarked next many 0 marks
  unmarked marks h = record { count = h; marked = λ m k l e. absurd (omega (arith, l)) }

  -- the superclass of one class more is marked
  pub marked-more : (n : ℕ) (marks after : List Bool) (class : Option ℕ) → class ≡ next n → IfSome class (λ k. k < length marks) → after ≡ marked_with marks class → AreMarked next many n marks → AreMarked next many (n + 1) after
  marked-more n marks after class e below q h = rw q (record { count = counted class; marked = λ m k l f. one m k l f (eqb_tells m n) })
    where
      again : (id k : ℕ) → get_or marks k false ≡ true → ((eqb k id ≡ true) × (k ≡ id)) ⊎ ((eqb k id ≡ false) × (k ≢ id)) → get_or (set marks id true) k false ≡ true
      again id k r (inl s) = subst (λ (j : ℕ). get_or (set marks j true) k false ≡ true) s.1 (get_or-set_same marks k true false (set-inside marks k r))
      again id k r (inr s) = get_or-set_other marks id k true false s.1 ∙ r

      counted : (o : Option ℕ) → length (marked_with marks o) ≡ many
      counted None = h.count
      counted (Some id) = length-set marks id true ∙ h.count

      kept : (o : Option ℕ) (k : ℕ) → get_or marks k false ≡ true → get_or (marked_with marks o) k false ≡ true
      kept None k r = r
      kept (Some id) k r = again id k r (eqb_tells k id)

      one : (m k : ℕ) → m < n + 1 → next m ≡ Some k → ((eqb m n ≡ true) × (m ≡ n)) ⊎ ((eqb m n ≡ false) × (m ≢ n)) → get_or (marked_with marks class) k false ≡ true
      one m k l f (inr s) = let ne : m ≢ n = s.1 in kept class k (h.marked m k (omega arith) f)
      one m k l f (inl s) =
          let is : class ≡ Some k = e ∙ ap next (sym s.1) ∙ f in
          let inside : k < length marks = subst (λ (o : Option ℕ). IfSome o (λ j. j < length marks)) is below in
          ap (λ o. get_or (marked_with marks o) k false) is ∙ get_or-set_same marks k true false inside
