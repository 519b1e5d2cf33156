-- What a rule on a class and a key makes of all classes, whatever it makes.
use Rattle.std.proofs.Common.{Some, ◌≡◌, ◌<◌, ◌≤◌, ◌+◌, ◌++◌, ◌∷◌, [], ℕ, zero, suc, Bool, true, List, Option, refl, sym, ◌∙◌, ap, subst, take, map, length, get_or, arith}
use Rattle.std.specs.Prelude.{IsTrue}
use Rattle.std.specs.List.{filter_map, cons_option, All, Contains}
use Rattle.std.proofs.lemmas.List.{length-map, take_more}
use Rattle.std.proofs.lemmas.List.Elements.{All-get_or, All-contains_itself, filter_passes, filter_map-append}
use Rattle.jc_facts.specs.declared.key.Key.{Key}
use Rattle.jc_facts.specs.Names.{Bytes}
use Rattle.jc_facts.specs.Exactly.{NamesRise, by_names}
use Rattle.jc_facts.specs.KeyOrder.{key_cmp}
use Rattle.jc_facts.specs.Exactly.{HasExactly}
use Rattle.std.specs.declared.cmp.Ordering.{Ordering}
use Rattle.jc_lemmas.proofs.Listed.{filter_in}
use Rattle.jc_facts.proofs.InOrder.{Rises-filter}
use Rattle.jc_index.specs.Ids.{names}
use Rattle.jc_facts.proofs.Exactly.{OfNames, exact_over, grown_start, grown_more, grown_all}
use Rattle.jc_index.proofs.Numbers.{names-rise}
use Rattle.jc_sides.specs.Rules.{HasEachInOrder, IsItemRule, IsOf}
use Rattle.jc_sides.specs.SharedOf.{AreThose, name_of, SharedOf}
use Rattle.jc_sides.specs.SidesOf.{SidesOf}

-- ---- a loop over keys, or over items of a row

-- one more
pub keys_more : {A F : Type 0} (h : A → Option F) (ks : List A) (n : ℕ) (k : A) (o : Option F) (fs gs : List F) → n < length ks → k ≡ get_or ks n k → fs ≡ filter_map h (take n ks) → o ≡ h k → gs ≡ fs ++ cons_option o []
    → gs ≡ filter_map h (take (n + 1) ks)
keys_more h ks n k o fs gs l is e q g =
    g ∙ ap (λ xs. xs ++ cons_option o []) e ∙ ap (λ p. filter_map h (take n ks) ++ cons_option p []) (q ∙ ap h is)
    ∙ sym (filter_map-append h (take n ks) (get_or ks n k ∷ []))
    ∙ ap (filter_map h) (sym (take_more ks n k l))

-- ---- the rule

module _ {F : Type 0} (order : F → F → Ordering) (class_of : F → Bytes) (makes : SidesOf → Bytes → Key → Option F) (Stand : SidesOf → F → Type 0) (covers : SidesOf → Bytes → Bool)
    (h : IsItemRule order class_of makes Stand covers) (s : SidesOf) where
  -- what stands of one class
  pub of_class : (x : Bytes) (keys : List Key) → HasEachInOrder (makes s x) keys → HasExactly order (IsOf class_of (Stand s) x) (filter_map (makes s x) keys)
  of_class x keys e =
      exact_over key_cmp order (makes s x) (h.by_key s x) (Contains keys) (IsOf class_of (Stand s) x) keys
      (record { in_order = e.in_order; sound = All-contains_itself keys; complete = λ k c. c })
      (λ k f c m. h.stands s x k f m)
      (λ f p. let k = h.made s f p.1 in let m : makes s x k.0 ≡ Some f = subst (λ (y : Bytes). makes s y k.0 ≡ Some f) p.0 k.1 in record { place = k.0; stands = e.each k.0 f m; gives = m })

  module _ (bs : List SharedOf) (those : AreThose (covers s) s bs) where
    -- what stands of these classes
    abbrev pub OfThese : List Bytes → F → Type 0
    OfThese xs = OfNames class_of (Stand s) xs

    rise : NamesRise (λ x. x) (map name_of bs)
    rise = subst (NamesRise (λ x. x)) (sym those.all) (Rises-filter (by_names (λ (x : Bytes). x)) (covers s) (names s.old) (names-rise s.old those.sides.old_side.differ))

    pub start : (fs : List F) → fs ≡ [] → HasExactly order (OfThese []) fs
    start = grown_start order class_of (Stand s) (h.by_class s) (map name_of bs) rise

    at : (n : ℕ) (b : SharedOf) → n < length bs → b ≡ get_or bs n b → get_or (map name_of bs) n [] ≡ name_of b
    at n b l is = mapped bs n l ∙ ap name_of (sym is)
      where
        mapped : (cs : List SharedOf) (i : ℕ) → i < length cs → get_or (map name_of cs) i [] ≡ name_of (get_or cs i b)
        mapped [] i k = absurd (omega arith)
        mapped (c ∷ cs) zero k = refl
        mapped (c ∷ cs) (suc i) k = mapped cs i (omega arith)

    below : (n : ℕ) → n < length bs → n < length (map name_of bs)
    below n l = subst (λ m. n < m) (sym (length-map bs name_of)) l

    pub covers_it : (n : ℕ) (b : SharedOf) → n < length bs → b ≡ get_or bs n b → IsTrue (covers s (name_of b))
    covers_it n b l is =
        subst (λ (x : Bytes). covers s x ≡ true) (at n b l is)
        (All-get_or (λ x. covers s x ≡ true) (map name_of bs) n [] (below n l) (subst (λ (xs : List Bytes). All (λ x. covers s x ≡ true) xs) (sym those.all) (filter_passes (covers s) (names s.old))))

    pub more : (n : ℕ) (b : SharedOf) (fs made gs : List F) → n < length bs → b ≡ get_or bs n b → HasExactly order (OfThese (take n (map name_of bs))) fs → HasExactly order (IsOf class_of (Stand s) (name_of b)) made
        → gs ≡ fs ++ made → HasExactly order (OfThese (take (n + 1) (map name_of bs))) gs
    more n b fs made gs l is e k g =
        grown_more order class_of (Stand s) (h.by_class s) (map name_of bs) rise n fs made gs (below n l) e (subst (λ (x : Bytes). HasExactly order (IsOf class_of (Stand s) x) made) (sym (at n b l is)) k) g

    pub whole : (n : ℕ) (fs : List F) → length bs ≤ n → HasExactly order (OfThese (take n (map name_of bs))) fs → HasExactly order (Stand s) fs
    whole n fs l e =
        grown_all order class_of (Stand s) (h.by_class s) (map name_of bs) rise n fs (subst (λ m. m ≤ n) (sym (length-map bs name_of)) l)
        (λ f p. let k = h.on_covered s those.sides f p in subst (λ (xs : List Bytes). Contains xs (class_of f)) (sym those.all) (filter_in (covers s) (names s.old) (class_of f) k.0 k.1)) e
