-- Names that are collected from classes, and counted.
use Rattle.std.proofs.Common.{◌≡◌, ◌<◌, ◌≤◌, ◌+◌, ℕ, Bool, true, false, cond, ◌||◌, List, [], ◌∷◌, ◌++◌, length, take, get_or, refl, sym, ◌∙◌, ap, subst, arith}
use Rattle.std.specs.Prelude.{nat_eq, Option, Some, None, is_some, IfSome}
use Rattle.std.proofs.lemmas.Bool.{or_right}
use Rattle.std.proofs.lemmas.Option.{slice_get_within, get_or_from_slice_get}
use Rattle.std.specs.List.{list_any}
use Rattle.std.specs.Cmp.Lexicographic.{pointwise}
use Rattle.std.proofs.lemmas.List.{take_more, take_all, length-append, length-take-le, get_or-take}
use Rattle.std.proofs.lemmas.List.Folds.{list_any-append, list_any_at}
use Rattle.std.proofs.Math.Bool.{or-false}
use Rattle.jc_lemmas.proofs.Bools.{or_assoc}
use Rattle.jc_facts.specs.declared.class_facts.ClassFacts.{ClassFacts}
use Rattle.jc_facts.specs.Names.{Bytes, same, is_name_among}
use Rattle.jc_facts.specs.world.Mentioned.{mentions, all_mentions}
use Rattle.jc_facts.proofs.Same.{same_is, same_itself}
use Rattle.jc_index.proofs.NumberedNames.{any-among}
use Rattle.jc_base.specs.Again.{IsAgain}
use Rattle.jc_index.specs.steps.Adding.{AddsNames}

-- ---- names that are added

-- one that is there
pub adds_known : (names : List Bytes) (x : Bytes) → is_name_among names x ≡ true → AddsNames names names (x ∷ [])
adds_known names x h = λ y. go y (same x y) refl
  where
    go : (y : Bytes) (b : Bool) → same x y ≡ b → is_name_among names y ≡ (is_name_among names y || (b || false))
    go y true e = let there : is_name_among names y ≡ true = ap (is_name_among names) (sym (same_is x y e)) ∙ h in rw there refl
    go y false e = sym (or-false (is_name_among names y))

-- one at the end
pub adds_last : (names now : List Bytes) (x : Bytes) → now ≡ names ++ x ∷ [] → AddsNames names now (x ∷ [])
adds_last names now x e = λ y. ap (λ (ns : List Bytes). is_name_among ns y) e ∙ list_any-append (λ z. same z y) names (x ∷ [])

-- one that is put into a set
pub adds_key : (x : Bytes) (names now : List Bytes) → now ≡ cond (list_any (λ y. pointwise nat_eq x y) names) names (names ++ x ∷ []) → AddsNames names now (x ∷ [])
adds_key x names now h = go (list_any (λ y. pointwise nat_eq x y) names) refl h
  where
    go : (b : Bool) → list_any (λ y. pointwise nat_eq x y) names ≡ b → now ≡ cond b names (names ++ x ∷ []) → AddsNames names now (x ∷ [])
    go true e g = subst (λ (ns : List Bytes). AddsNames names ns (x ∷ [])) (sym g) (adds_known names x (sym (any-among x names) ∙ e))
    go false e g = adds_last names now x g

-- some names, and then others
pub adds_both : (a b c xs ys : List Bytes) → AddsNames a b xs → AddsNames b c ys → AddsNames a c (xs ++ ys)
adds_both a b c xs ys h k = λ y.
    k y ∙ ap (λ (t : Bool). t || is_name_among ys y) (h y) ∙ or_assoc (is_name_among a y) (is_name_among xs y) (is_name_among ys y)
    ∙ ap (λ (t : Bool). is_name_among a y || t) (sym (list_any-append (λ z. same z y) xs ys))

pub adds_next : (a b c names : List Bytes) (n : ℕ) (x : Bytes) → n < length names → x ≡ get_or names n x → AddsNames a b (take n names) → AddsNames b c (x ∷ []) → AddsNames a c (take (n + 1) names)
adds_next a b c names n x l e h k =
    subst (λ (ns : List Bytes). AddsNames a c ns) (ap (λ (y : Bytes). take n names ++ y ∷ []) e ∙ sym (take_more names n x l)) (adds_both a b c (take n names) (x ∷ []) h k)

-- one that stands at an earlier place too
pub adds_again : (a b names : List Bytes) (at earlier : ℕ) → IsAgain names at earlier → AddsNames a b (take at names) → AddsNames a b (take (at + 1) names)
adds_again a b names at earlier g h =
    let within : at < length names = slice_get_within names at g.name g.there in
    let front : length (take at names) ≡ at = length-take-le at names (omega (arith, within)) in
    let is : get_or (take at names) earlier g.name ≡ g.name = get_or-take at names earlier g.name g.after ∙ get_or_from_slice_get names earlier g.name g.name g.before in
    let one : same (get_or (take at names) earlier g.name) g.name ≡ true = ap (λ (x : Bytes). same x g.name) is ∙ same_itself g.name in
    let t : is_name_among (take at names) g.name ≡ true = list_any_at (λ z. same z g.name) (take at names) earlier g.name (omega (arith, g.after, front)) one in
    let there : is_name_among b g.name ≡ true = h g.name ∙ or_right (is_name_among a g.name) (is_name_among (take at names) g.name) t in
    adds_next a b b names at g.name within (sym (get_or_from_slice_get names at g.name g.name g.there)) h (adds_known b g.name there)

-- the same of one that may stand at an earlier place
pub adds_found : (a b names : List Bytes) (at : ℕ) (found : Option ℕ) → IfSome found (λ earlier. IsAgain names at earlier) → true ≡ is_some found → AddsNames a b (take at names) → AddsNames a b (take (at + 1) names)
adds_found a b names at None g t h = absurd (cc)
adds_found a b names at (Some earlier) g t h = adds_again a b names at earlier g h

pub adds_all : (a b names : List Bytes) (n : ℕ) → length names ≤ n → AddsNames a b (take n names) → AddsNames a b names
adds_all a b names n l h = subst (λ (ns : List Bytes). AddsNames a b ns) (take_all n names l) h

-- ---- the names of classes

-- `has` tells whether a name is one of the class's
module _ (has : ClassFacts → Bytes → Bool) where
  -- those of these classes
  abbrev pub AreOf : List ClassFacts → List Bytes → Type 0
  AreOf cs names = (x : Bytes) → is_name_among names x ≡ list_any (λ c. has c x) cs

  pub are_of_next : (cs : List ClassFacts) (n : ℕ) (c : ClassFacts) (before now own : List Bytes) → n < length cs → c ≡ get_or cs n c → ((x : Bytes) → is_name_among own x ≡ has c x) → AddsNames before now own → AreOf (take n cs) before → AreOf (take (n + 1) cs) now
  are_of_next cs n c before now own l e f a h = λ x.
      a x ∙ ap (λ (b : Bool). b || is_name_among own x) (h x) ∙ ap (λ (b : Bool). list_any (λ d. has d x) (take n cs) || b) (f x ∙ sym (or-false (has c x)))
      ∙ sym (list_any-append (λ d. has d x) (take n cs) (c ∷ [])) ∙ ap (list_any (λ d. has d x)) (ap (λ (d : ClassFacts). take n cs ++ d ∷ []) e ∙ sym (take_more cs n c l))

  pub are_of_all : (cs : List ClassFacts) (n : ℕ) (names : List Bytes) → length cs ≤ n → AreOf (take n cs) names → AreOf cs names
  are_of_all cs n names l h = subst (λ (ds : List ClassFacts). AreOf ds names) (take_all n cs l) h

-- ---- how many they are

one_more_counted : (cs : List ClassFacts) (c : ClassFacts) → length (all_mentions (cs ++ c ∷ [])) ≡ length (all_mentions cs) + length (mentions c)
one_more_counted [] c = omega (arith, length-append (mentions c) [])
one_more_counted (d ∷ cs) c = omega (arith, length-append (mentions d) (all_mentions (cs ++ c ∷ [])), length-append (mentions d) (all_mentions cs), one_more_counted cs c)

pub count_next : (cs : List ClassFacts) (n : ℕ) (c : ClassFacts) (count more : ℕ) → n < length cs → c ≡ get_or cs n c → more ≡ count + length (mentions c) → count ≡ length (all_mentions (take n cs)) → more ≡ length (all_mentions (take (n + 1) cs))
count_next cs n c count more l e f h =
    f ∙ ap (λ (k : ℕ). k + length (mentions c)) h ∙ sym (one_more_counted (take n cs) c)
    ∙ ap (λ (ds : List ClassFacts). length (all_mentions ds)) (ap (λ (d : ClassFacts). take n cs ++ d ∷ []) e ∙ sym (take_more cs n c l))
