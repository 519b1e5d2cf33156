-- Steps of the loops that read lists.
use Rattle.std.proofs.Common.{◌≡◌, ℕ, suc, zero, ◌-◌, ◌<◌, Bool, true, false, cond, nat_eq, length, List, [], ◌∷◌, ◌++◌, Option, Some, None, refl, sym, ap, ◌∙◌, append_assoc, arith}
use Rattle.std.proofs.lemmas.Bool.{ne_eqb}
use Rattle.std.proofs.lemmas.List.{append-nil}
use Rattle.jc_desc.specs.Names.{is_nil}
use Rattle.jc_desc.specs.Reading.{◌>>=◌}
use Rattle.jc_sig.specs.Trees.{TypeTree, ClassTree, ParameterTree}
use Rattle.jc_sig.specs.Reading.{Read, behind, ended_or, reference_from, top_from, top_class_from, bounds_from, parameter_from, parameters_from, classes_of, types_from, thrown_from, throws_of}

abbrev pub with_front : {A : Type 0} → List A → Read (List A) → Read (List A)
with_front front read = read >>= λ x. Some (front ++ x.0, x.1)

regroup : {A : Type 0} (front : List A) (x : A) (read : Read (List A)) → with_front front (read >>= λ y. Some (x ∷ y.0, y.1)) ≡ with_front (front ++ x ∷ []) read
regroup {A} front x None = refl
regroup {A} front x (Some y) = ap (λ (zs : List A). Some (zs, y.1)) (sym (append_assoc front (x ∷ []) y.0))

nothing_more : {A : Type 0} (front : List A) (rest : List ℕ) → with_front front (Some ([], rest)) ≡ Some (front, rest)
nothing_more {A} front rest = ap (λ (zs : List A). Some (zs, rest)) (append-nil front)

-- one item, and more
abbrev more_of : (A : Type 0) → (List ℕ → Read A) → (List ℕ → Read (List A)) → List ℕ → Read (List A)
more_of A one more bytes = one bytes >>= λ x. more x.1 >>= λ xs. Some (x.0 ∷ xs.0, xs.1)

-- ---- items up to a byte

module _ (A : Type 0) (one : List ℕ → Read A) (byte : ℕ) (F : ℕ → List ℕ → Read (List A)) (at_zero : (bs : List ℕ) → F zero bs ≡ None) (at_suc : (n : ℕ) (bs : List ℕ) → F (suc n) bs ≡ ended_or [] (behind byte bs) (more_of A one (F n) bs))
    (front : List A) (n : ℕ) (bytes : List ℕ) (total : Read (List A)) (h : with_front front (F n bytes) ≡ total) where
  until_more : (m : ℕ) (x : A) (next : List ℕ) → n ≡ suc m → behind byte bytes ≡ None → one bytes ≡ Some (x, next) → with_front (front ++ x ∷ []) (F m next) ≡ total
  until_more m x next k c r =
      let one_of : with_front front (F n bytes) ≡ with_front (front ++ x ∷ []) (F m next) = rw (k, at_suc m bytes, c, r) (regroup front x (F m next)) in
      sym one_of ∙ h

  until_end : (rest : List ℕ) → 0 < n → behind byte bytes ≡ Some rest → Some (front, rest) ≡ total
  until_end rest k c =
      let e : n ≡ suc (n - 1) = omega arith in
      let one_of : with_front front (F n bytes) ≡ Some (front, rest) = rw (e, at_suc (n - 1) bytes, c) (nothing_more front rest) in
      sym one_of ∙ h

  until_bad : 0 < n → behind byte bytes ≡ None → one bytes ≡ None → None ≡ total
  until_bad k c r =
      let e : n ≡ suc (n - 1) = omega arith in
      let one_of : with_front front (F n bytes) ≡ None = rw (e, at_suc (n - 1) bytes, c, r) refl in
      sym one_of ∙ h

  until_out : n ≡ 0 → None ≡ total
  until_out k = let one_of : with_front front (F n bytes) ≡ None = rw (k, at_zero bytes) refl in sym one_of ∙ h

types_zero : (bs : List ℕ) → types_from zero bs ≡ None
unfolding types_from
types_zero bs = refl

types_suc : (n : ℕ) (bs : List ℕ) → types_from (suc n) bs ≡ ended_or [] (behind 41 bs) (more_of TypeTree top_from (types_from n) bs)
unfolding types_from
types_suc n bs = refl

pub types_more : (front : List TypeTree) (n : ℕ) (bytes : List ℕ) (total : Read (List TypeTree)) → with_front front (types_from n bytes) ≡ total → (m : ℕ) (x : TypeTree) (next : List ℕ) → n ≡ suc m → behind 41 bytes ≡ None → top_from bytes ≡ Some (x, next)
    → with_front (front ++ x ∷ []) (types_from m next) ≡ total
types_more = until_more TypeTree top_from 41 types_from types_zero types_suc

pub types_end : (front : List TypeTree) (n : ℕ) (bytes : List ℕ) (total : Read (List TypeTree)) → with_front front (types_from n bytes) ≡ total → (rest : List ℕ) → 0 < n → behind 41 bytes ≡ Some rest → Some (front, rest) ≡ total
types_end = until_end TypeTree top_from 41 types_from types_zero types_suc

pub types_bad : (front : List TypeTree) (n : ℕ) (bytes : List ℕ) (total : Read (List TypeTree)) → with_front front (types_from n bytes) ≡ total → 0 < n → behind 41 bytes ≡ None → top_from bytes ≡ None → None ≡ total
types_bad = until_bad TypeTree top_from 41 types_from types_zero types_suc

pub types_out : (front : List TypeTree) (n : ℕ) (bytes : List ℕ) (total : Read (List TypeTree)) → with_front front (types_from n bytes) ≡ total → n ≡ 0 → None ≡ total
types_out = until_out TypeTree top_from 41 types_from types_zero types_suc

parameters_zero : (bs : List ℕ) → parameters_from zero bs ≡ None
unfolding parameters_from
parameters_zero bs = refl

parameters_suc : (n : ℕ) (bs : List ℕ) → parameters_from (suc n) bs ≡ ended_or [] (behind 62 bs) (more_of ParameterTree parameter_from (parameters_from n) bs)
unfolding parameters_from
parameters_suc n bs = refl

pub parameters_more : (front : List ParameterTree) (n : ℕ) (bytes : List ℕ) (total : Read (List ParameterTree)) → with_front front (parameters_from n bytes) ≡ total → (m : ℕ) (x : ParameterTree) (next : List ℕ) → n ≡ suc m → behind 62 bytes ≡ None → parameter_from bytes ≡ Some (x, next)
    → with_front (front ++ x ∷ []) (parameters_from m next) ≡ total
parameters_more = until_more ParameterTree parameter_from 62 parameters_from parameters_zero parameters_suc

pub parameters_end : (front : List ParameterTree) (n : ℕ) (bytes : List ℕ) (total : Read (List ParameterTree)) → with_front front (parameters_from n bytes) ≡ total → (rest : List ℕ) → 0 < n → behind 62 bytes ≡ Some rest → Some (front, rest) ≡ total
parameters_end = until_end ParameterTree parameter_from 62 parameters_from parameters_zero parameters_suc

pub parameters_bad : (front : List ParameterTree) (n : ℕ) (bytes : List ℕ) (total : Read (List ParameterTree)) → with_front front (parameters_from n bytes) ≡ total → 0 < n → behind 62 bytes ≡ None → parameter_from bytes ≡ None → None ≡ total
parameters_bad = until_bad ParameterTree parameter_from 62 parameters_from parameters_zero parameters_suc

pub parameters_out : (front : List ParameterTree) (n : ℕ) (bytes : List ℕ) (total : Read (List ParameterTree)) → with_front front (parameters_from n bytes) ≡ total → n ≡ 0 → None ≡ total
parameters_out = until_out ParameterTree parameter_from 62 parameters_from parameters_zero parameters_suc

-- ---- bounds, as long as there is a :

module _ (front : List TypeTree) (n : ℕ) (bytes : List ℕ) (total : Read (List TypeTree)) (h : with_front front (bounds_from n bytes) ≡ total) where
  pub bounds_more : (m : ℕ) (rest : List ℕ) (x : TypeTree) (next : List ℕ) → n ≡ suc m → behind 58 bytes ≡ Some rest → reference_from top_from rest ≡ Some (x, next) → with_front (front ++ x ∷ []) (bounds_from m next) ≡ total
  unfolding bounds_from
  bounds_more m rest x next k c r =
      let one_of : with_front front (bounds_from n bytes) ≡ with_front (front ++ x ∷ []) (bounds_from m next) = rw (k, c, r) (regroup front x (bounds_from m next)) in
      sym one_of ∙ h

  pub bounds_end : 0 < n → behind 58 bytes ≡ None → Some (front, bytes) ≡ total
  unfolding bounds_from
  bounds_end k c =
      let e : n ≡ suc (n - 1) = omega arith in
      let one_of : with_front front (bounds_from n bytes) ≡ Some (front, bytes) = rw (e, c) (nothing_more front bytes) in
      sym one_of ∙ h

  pub bounds_bad : (rest : List ℕ) → 0 < n → behind 58 bytes ≡ Some rest → reference_from top_from rest ≡ None → None ≡ total
  unfolding bounds_from
  bounds_bad rest k c r =
      let e : n ≡ suc (n - 1) = omega arith in
      let one_of : with_front front (bounds_from n bytes) ≡ None = rw (e, c, r) refl in
      sym one_of ∙ h

  pub bounds_out : n ≡ 0 → Some (front, bytes) ≡ total
  unfolding bounds_from
  bounds_out k =
      let one_of : with_front front (bounds_from n bytes) ≡ Some (front, bytes) = rw k (nothing_more front bytes) in
      sym one_of ∙ h

-- ---- items up to the end

abbrev pub with_whole : {A : Type 0} → List A → Option (List A) → Option (List A)
with_whole front read = read >>= λ xs. Some (front ++ xs)

whole_regroup : {A : Type 0} (front : List A) (x : A) (read : Option (List A)) → with_whole front (read >>= λ xs. Some (x ∷ xs)) ≡ with_whole (front ++ x ∷ []) read
whole_regroup {A} front x None = refl
whole_regroup {A} front x (Some xs) = ap (λ (zs : List A). Some zs) (sym (append_assoc front (x ∷ []) xs))

abbrev rest_of : (A : Type 0) → (List ℕ → Read A) → (List ℕ → Option (List A)) → List ℕ → Option (List A)
rest_of A one more bytes = one bytes >>= λ x. more x.1 >>= λ xs. Some (x.0 ∷ xs)

module _ (A : Type 0) (one : List ℕ → Read A) (F : ℕ → List ℕ → Option (List A)) (at_zero : (bs : List ℕ) → F zero bs ≡ cond (is_nil bs) (Some []) None) (at_suc : (n : ℕ) (bs : List ℕ) → F (suc n) bs ≡ cond (is_nil bs) (Some []) (rest_of A one (F n) bs))
    (front : List A) (n : ℕ) (bytes : List ℕ) (total : Option (List A)) (h : with_whole front (F n bytes) ≡ total) where
  whole_more : (m : ℕ) (x : A) (next : List ℕ) → n ≡ suc m → is_nil bytes ≡ false → one bytes ≡ Some (x, next) → with_whole (front ++ x ∷ []) (F m next) ≡ total
  whole_more m x next k c r =
      let one_of : with_whole front (F n bytes) ≡ with_whole (front ++ x ∷ []) (F m next) = rw (k, at_suc m bytes, c, r) (whole_regroup front x (F m next)) in
      sym one_of ∙ h

  whole_bad : 0 < n → is_nil bytes ≡ false → one bytes ≡ None → None ≡ total
  whole_bad k c r =
      let e : n ≡ suc (n - 1) = omega arith in
      let one_of : with_whole front (F n bytes) ≡ None = rw (e, at_suc (n - 1) bytes, c, r) refl in
      sym one_of ∙ h

  whole_end : is_nil bytes ≡ true → Some front ≡ total
  whole_end c = sym (go n refl) ∙ h where
    go : (m : ℕ) → n ≡ m → with_whole front (F n bytes) ≡ Some front
    go zero e = rw (e, at_zero bytes, c) (ap (λ (zs : List A). Some zs) (append-nil front))
    go (suc m) e = rw (e, at_suc m bytes, c) (ap (λ (zs : List A). Some zs) (append-nil front))

  whole_out : n ≡ 0 → is_nil bytes ≡ false → None ≡ total
  whole_out k c = let one_of : with_whole front (F n bytes) ≡ None = rw (k, at_zero bytes, c) refl in sym one_of ∙ h

classes_zero : (bs : List ℕ) → classes_of zero bs ≡ cond (is_nil bs) (Some []) None
unfolding classes_of
classes_zero bs = refl

classes_suc : (n : ℕ) (bs : List ℕ) → classes_of (suc n) bs ≡ cond (is_nil bs) (Some []) (rest_of ClassTree top_class_from (classes_of n) bs)
unfolding classes_of
classes_suc n bs = refl

pub classes_more : (front : List ClassTree) (n : ℕ) (bytes : List ℕ) (total : Option (List ClassTree)) → with_whole front (classes_of n bytes) ≡ total → (m : ℕ) (x : ClassTree) (next : List ℕ) → n ≡ suc m → is_nil bytes ≡ false → top_class_from bytes ≡ Some (x, next)
    → with_whole (front ++ x ∷ []) (classes_of m next) ≡ total
classes_more = whole_more ClassTree top_class_from classes_of classes_zero classes_suc

pub classes_bad : (front : List ClassTree) (n : ℕ) (bytes : List ℕ) (total : Option (List ClassTree)) → with_whole front (classes_of n bytes) ≡ total → 0 < n → is_nil bytes ≡ false → top_class_from bytes ≡ None → None ≡ total
classes_bad = whole_bad ClassTree top_class_from classes_of classes_zero classes_suc

pub classes_end : (front : List ClassTree) (n : ℕ) (bytes : List ℕ) (total : Option (List ClassTree)) → with_whole front (classes_of n bytes) ≡ total → is_nil bytes ≡ true → Some front ≡ total
classes_end = whole_end ClassTree top_class_from classes_of classes_zero classes_suc

pub classes_out : (front : List ClassTree) (n : ℕ) (bytes : List ℕ) (total : Option (List ClassTree)) → with_whole front (classes_of n bytes) ≡ total → n ≡ 0 → is_nil bytes ≡ false → None ≡ total
classes_out = whole_out ClassTree top_class_from classes_of classes_zero classes_suc

throws_zero : (bs : List ℕ) → throws_of zero bs ≡ cond (is_nil bs) (Some []) None
unfolding throws_of
throws_zero bs = refl

throws_suc : (n : ℕ) (bs : List ℕ) → throws_of (suc n) bs ≡ cond (is_nil bs) (Some []) (rest_of TypeTree thrown_from (throws_of n) bs)
unfolding throws_of
throws_suc n bs = refl

pub throws_more : (front : List TypeTree) (n : ℕ) (bytes : List ℕ) (total : Option (List TypeTree)) → with_whole front (throws_of n bytes) ≡ total → (m : ℕ) (x : TypeTree) (next : List ℕ) → n ≡ suc m → is_nil bytes ≡ false → thrown_from bytes ≡ Some (x, next)
    → with_whole (front ++ x ∷ []) (throws_of m next) ≡ total
throws_more = whole_more TypeTree thrown_from throws_of throws_zero throws_suc

pub throws_bad : (front : List TypeTree) (n : ℕ) (bytes : List ℕ) (total : Option (List TypeTree)) → with_whole front (throws_of n bytes) ≡ total → 0 < n → is_nil bytes ≡ false → thrown_from bytes ≡ None → None ≡ total
throws_bad = whole_bad TypeTree thrown_from throws_of throws_zero throws_suc

pub throws_end : (front : List TypeTree) (n : ℕ) (bytes : List ℕ) (total : Option (List TypeTree)) → with_whole front (throws_of n bytes) ≡ total → is_nil bytes ≡ true → Some front ≡ total
throws_end = whole_end TypeTree thrown_from throws_of throws_zero throws_suc

pub throws_out : (front : List TypeTree) (n : ℕ) (bytes : List ℕ) (total : Option (List TypeTree)) → with_whole front (throws_of n bytes) ≡ total → n ≡ 0 → is_nil bytes ≡ false → None ≡ total
throws_out = whole_out TypeTree thrown_from throws_of throws_zero throws_suc

pub nil_iff : (bytes : List ℕ) (n : ℕ) (t : Bool) → n ≡ length bytes → t ≡ nat_eq n 0 → is_nil bytes ≡ t
nil_iff [] n t e h = sym (h ∙ ap (λ (k : ℕ). nat_eq k 0) e)
nil_iff (b ∷ bs) n t e h = sym (h ∙ ne_eqb n 0 (λ z. absurd (let q : suc (length bs) ≡ 0 = sym e ∙ z in omega arith)))
