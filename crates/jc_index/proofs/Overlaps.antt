-- The least name of a list that passes is the first that passes in byte order.
use Rattle.std.proofs.Common.{◌≡◌, ℕ, ◌+◌, ◌<◌, ◌≤◌, Bool, true, false, cond, List, [], ◌∷◌, length, drop, get_or, refl, sym, ◌∙◌, ap, Option, Some, None, Ordering}
use Rattle.std.specs.Prelude.{IsTrue}
use Rattle.std.specs.List.{find as first_where}
use Rattle.std.specs.Ordering.{is_lt, is_eq, ordering_reverse}
use Rattle.std.specs.Cmp.Lexicographic.{nat_list_cmp_total}
use Rattle.std.specs.declared.cmp.Ordering.TheVariants.{Less, Equal, Greater}
use Rattle.std.proofs.lemmas.List.{at_drop_more, drop_all}
use Rattle.std.proofs.lemmas.Map.Text.{is_eq-slice_cmp}
use Rattle.jc_facts.specs.declared.class_facts.ClassFacts.{ClassFacts}
use Rattle.jc_facts.specs.Names.{Bytes}
use Rattle.jc_facts.specs.Exactly.{name_order, Rises}
use Rattle.jc_facts.specs.Exactly.{Before, NamesRise}
use Rattle.jc_facts.specs.world.World.{differ_by_name}
use Rattle.jc_facts.specs.ByName.{least, lower}
use Rattle.jc_lemmas.proofs.Listed.{EachOf, EachOf-map}
use Rattle.jc_facts.proofs.Same.{same_is}
use Rattle.jc_index.specs.Ids.{insert, names_of}
use Rattle.jc_index.proofs.Numbers.{names_of-rise, names_of-rest}

lower-before : (x z : Bytes) → Before x z → cond (is_lt (name_order z x)) z x ≡ x
lower-before x z h = let e : name_order z x ≡ Greater = nat_list_cmp_total.antisymm z x ∙ ap ordering_reverse h in ap (λ o. cond (is_lt o) z x) e

lower-not_before : (x y : Bytes) (o : Ordering) → name_order x y ≡ o → is_lt o ≡ false → cond (is_lt (name_order y x)) y x ≡ y
lower-not_before x y Less e f = absurd (cc)
lower-not_before x y Equal e f =
    let same_name : x ≡ y = same_is x y (sym (is_eq-slice_cmp x y) ∙ ap is_eq e) in
    let q : name_order y x ≡ Equal = nat_list_cmp_total.antisymm y x ∙ ap ordering_reverse e in
    ap (λ o. cond (is_lt o) y x) q ∙ same_name
lower-not_before x y Greater e f = let q : name_order y x ≡ Less = nat_list_cmp_total.antisymm y x ∙ ap ordering_reverse e in ap (λ o. cond (is_lt o) y x) q

module _ (test : Bytes → Bool) where
  -- a name before all is the least
  lower-first : (x : Bytes) (ys : List Bytes) → EachOf (λ y. Before x y) ys → lower x (first_where test ys) ≡ x
  lower-first x [] h = refl
  lower-first x (y ∷ ys) h = go (test y) (lower-first x ys h.1)
    where
      go : (b : Bool) → lower x (first_where test ys) ≡ x → lower x (cond b (Some y) (first_where test ys)) ≡ x
      go true r = lower-before x y h.0
      go false r = r

  insert-first : (x : Bytes) (ys : List Bytes) → NamesRise (λ (z : Bytes). z) ys → first_where test (insert x ys) ≡ cond (test x) (Some (lower x (first_where test ys))) (first_where test ys)
  unfolding insert Rises
  insert-first x [] r = refl
  insert-first x (y ∷ ys) r = go (name_order x y) refl (insert-first x ys r.1)
    where
      rest : Option Bytes
      rest = first_where test ys

      after : (b c : Bool) → is_lt (name_order x y) ≡ false → cond b (Some y) (cond c (Some (lower x rest)) rest) ≡ cond c (Some (lower x (cond b (Some y) rest))) (cond b (Some y) rest)
      after true true e = ap Some (sym (lower-not_before x y (name_order x y) refl e))
      after true false e = refl
      after false c e = refl

      go : (o : Ordering) → name_order x y ≡ o → first_where test (insert x ys) ≡ cond (test x) (Some (lower x rest)) rest
          → first_where test (cond (is_lt o) (x ∷ y ∷ ys) (y ∷ insert x ys)) ≡ cond (test x) (Some (lower x (first_where test (y ∷ ys)))) (first_where test (y ∷ ys))
      go Less e s =
          let each : EachOf (λ z. Before x z) (y ∷ ys) = (e, EachOf-map (λ z k. nat_list_cmp_total.trans x y z e k) ys r.0) in
          ap (λ (z : Bytes). cond (test x) (Some z) (first_where test (y ∷ ys))) (sym (lower-first x (y ∷ ys) each))
      go Equal e s = ap (cond (test y) (Some y)) s ∙ after (test y) (test x) (ap is_lt e)
      go Greater e s = ap (cond (test y) (Some y)) s ∙ after (test y) (test x) (ap is_lt e)

  pub least_is : (cs : List ClassFacts) → IsTrue (differ_by_name cs) → first_where test (names_of cs) ≡ least test cs
  unfolding names_of least
  least_is [] d = refl
  least_is (c ∷ cs) d =
      let k = names_of-rest c cs d in
      insert-first c.name (names_of cs) (names_of-rise cs k) ∙ ap (λ (o : Option Bytes). cond (test c.name) (Some (lower c.name o)) o) (least_is cs k)

-- ---- from the last class on

-- one more class
pub least_next : (test : Bytes → Bool) (cs : List ClassFacts) (n m : ℕ) (c : ClassFacts) (found now : Option Bytes) → n < length cs → n + 1 ≡ m → c ≡ get_or cs n c → found ≡ least test (drop m cs)
    → now ≡ cond (test c.name) (Some (lower c.name found)) found → now ≡ least test (drop n cs)
unfolding least
least_next test cs n m c found now l e f h g =
    let rest : found ≡ least test (drop (n + 1) cs) = h ∙ ap (λ (k : ℕ). least test (drop k cs)) (sym e) in
    g ∙ ap (λ (o : Option Bytes). cond (test c.name) (Some (lower c.name o)) o) rest
    ∙ ap (λ (d : ClassFacts). least test (d ∷ drop (n + 1) cs)) f ∙ sym (at_drop_more (least test) cs n c l)

pub least_of_none : (test : Bytes → Bool) (cs : List ClassFacts) (n : ℕ) → length cs ≤ n → None ≡ least test (drop n cs)
unfolding least
least_of_none test cs n l = ap (least test) (sym (drop_all n cs l))
