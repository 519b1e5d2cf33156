-- Lists of the classes that descriptors name, put together.
use Rattle.std.proofs.Common.{◌≡◌, ◌<◌, ◌≤◌, ◌+◌, ◌==◌, ℕ, Bool, true, false, List, [], ◌∷◌, ◌++◌, length, get_or, take, refl, sym, ◌∙◌, ap, subst, Some, None, ◌||◌}
use Rattle.std.specs.List.{list_any, cons_option}
use Rattle.std.specs.Bool.{then_some}
use Rattle.std.specs.Str.{bytes_eq}
use Rattle.std.proofs.lemmas.Bool.{eqb-true, eq-eqb}
use Rattle.std.proofs.lemmas.List.{take_all, take_more}
use Rattle.std.proofs.lemmas.List.Folds.{list_any-append}
use Rattle.std.proofs.Math.Bool.{or-false}
use Rattle.std.specs.Cmp.{both_ways}
use Rattle.jc_lemmas.proofs.Bools.{contradicts, or_assoc}
use Rattle.jc_desc.specs.Classes.{type_names, some_type_names, some_method_names, descriptor_names}
use Rattle.jc_desc.specs.Reading.{field_of, method_of}
use Rattle.jc_desc.specs.Views.{type_view, views}
use Rattle.jc_desc.specs.declared.field.FieldType.{FieldType}
use Rattle.jc_facts.specs.Names.{Bytes}
use Rattle.jc_facts.proofs.Same.{same_is, same_itself}
use Rattle.jc_facts.specs.world.World.{World, size}
use Rattle.jc_index.proofs.Numbers.{id_of-name_at, id_of-Some}
use Rattle.jc_index.specs.Ids.{name_at, id_of}
use Rattle.jc_index.specs.Sides.{IsSide}
use Rattle.jc_exposed.specs.Named.{Lists}

module _ (W : World) (on : ℕ → Bool) where
  pub lists_same : (p q : Bytes → Bool) (ids : List ℕ) → ((x : Bytes) → p x ≡ q x) → Lists W on p ids → Lists W on q ids
  lists_same p q ids e f = record { exact = λ t l o. f.exact t l o ∙ e (name_at W t) }

  pub lists_none : (p : Bytes → Bool) (ids : List ℕ) → ids ≡ [] → ((x : Bytes) → p x ≡ false) → Lists W on p ids
  lists_none p ids e h = subst (Lists W on p) (sym e) (record { exact = λ t l o. sym (h (name_at W t)) })

  pub lists_both : (p q : Bytes → Bool) (xs ys zs : List ℕ) → zs ≡ xs ++ ys → Lists W on p xs → Lists W on q ys → Lists W on (λ x. p x || q x) zs
  lists_both p q xs ys zs e f g = subst (Lists W on (λ x. p x || q x)) (sym e) (record {
    exact = λ t l o. list_any-append (λ n. n == t) xs ys ∙ ap (λ b. b || list_any (λ n. n == t) ys) (f.exact t l o) ∙ ap (λ b. p (name_at W t) || b) (g.exact t l o);
  })

  pub lists_first : (p : Bytes → Bool) (first now more : List ℕ) → first ≡ [] → now ≡ first ++ more → Lists W on p more → Lists W on p now
  lists_first p first now more e j f = subst (Lists W on p) (sym (j ∙ ap (λ z. z ++ more) e)) f

  -- along types
  pub types_next : (ts : List FieldType) (n : ℕ) (y d : FieldType) (ids more now : List ℕ) → n < length ts → y ≡ get_or ts n d → now ≡ ids ++ more → Lists W on (λ x. list_any (type_names x) (views (take n ts))) ids
      → Lists W on (λ x. type_names x (type_view y)) more → Lists W on (λ x. list_any (type_names x) (views (take (n + 1) ts))) now
  types_next ts n y d ids more now l i e f g =
      lists_same (λ x. list_any (type_names x) (views (take n ts)) || type_names x (type_view y)) (λ x. list_any (type_names x) (views (take (n + 1) ts))) now
      (λ x. sym (ap (λ zs. list_any (type_names x) (views zs)) (take_more ts n d l ∙ ap (λ z. take n ts ++ z ∷ []) (sym i)) ∙ last x (take n ts)))
      (lists_both (λ x. list_any (type_names x) (views (take n ts))) (λ x. type_names x (type_view y)) ids more now e f g)
    where
      last : (x : Bytes) (zs : List FieldType) → list_any (type_names x) (views (zs ++ y ∷ [])) ≡ (list_any (type_names x) (views zs) || type_names x (type_view y))
      last x [] = or-false (type_names x (type_view y))
      last x (z ∷ zs) = ap (λ b. type_names x (type_view z) || b) (last x zs) ∙ sym (or_assoc (type_names x (type_view z)) (list_any (type_names x) (views zs)) (type_names x (type_view y)))

  pub types_end : (ts : List FieldType) (n : ℕ) (ids : List ℕ) → length ts ≤ n → Lists W on (λ x. list_any (type_names x) (views (take n ts))) ids → Lists W on (λ x. list_any (type_names x) (views ts)) ids
  types_end ts n ids l f = subst (λ zs. Lists W on (λ x. list_any (type_names x) (views zs)) ids) (take_all n ts l) f

  -- the class of a name
  module _ (s : IsSide W) where
    pub found_not : (name : Bytes) → None ≡ id_of W name → Lists W on (λ x. bytes_eq name x) []
    found_not name e = record { exact = λ t l o. never t l (bytes_eq name (name_at W t)) refl }
      where
        never : (t : ℕ) → t < size W → (b : Bool) → bytes_eq name (name_at W t) ≡ b → false ≡ b
        never t l false q = refl
        never t l true q = absurd (let z : None ≡ Some t = e ∙ ap (id_of W) (same_is name (name_at W t) q) ∙ id_of-name_at W t s.differ l in cc)

    module _ (name : Bytes) (n : ℕ) (e : Some n ≡ id_of W name) where
      is : name_at W n ≡ name
      is = (id_of-Some W name n (sym e)).1

      same_number : (t : ℕ) → t < size W → (n == t) ≡ bytes_eq name (name_at W t)
      same_number t l = both_ways (n == t) (bytes_eq name (name_at W t)) to from
        where
          to : (n == t) ≡ true → bytes_eq name (name_at W t) ≡ true
          to q = ap (λ m. bytes_eq name (name_at W m)) (sym (eqb-true n t q)) ∙ ap (bytes_eq name) is ∙ same_itself name

          from : bytes_eq name (name_at W t) ≡ true → (n == t) ≡ true
          from q = let k : Some n ≡ Some t = e ∙ ap (id_of W) (same_is name (name_at W t) q) ∙ id_of-name_at W t s.differ l in let j : n ≡ t = cc in eq-eqb n t j

      pub found_one : (wanted : Bool) → wanted ≡ on n → Lists W on (λ x. bytes_eq name x) (cons_option (then_some wanted n) [])
      found_one true w = record { exact = λ t l o. or-false (n == t) ∙ same_number t l }
      found_one false w = record { exact = λ t l o. other t o (n == t) refl ∙ same_number t l }
        where
          other : (t : ℕ) → on t ≡ true → (b : Bool) → (n == t) ≡ b → false ≡ b
          other t o false q = refl
          other t o true q = absurd (contradicts (on t) o (ap on (sym (eqb-true n t q)) ∙ sym w))

  pub named_found : (d : Bytes) (first half now rs ss : List ℕ) → first ≡ [] → half ≡ first ++ rs → now ≡ half ++ ss → Lists W on (λ x. some_type_names x (field_of d)) rs → Lists W on (λ x. some_method_names x (method_of d)) ss
      → Lists W on (descriptor_names d) now
  unfolding descriptor_names
  named_found d first half now rs ss e h j f g = lists_both (λ x. some_type_names x (field_of d)) (λ x. some_method_names x (method_of d)) half ss now j (lists_first (λ x. some_type_names x (field_of d)) first half rs e h f) g
