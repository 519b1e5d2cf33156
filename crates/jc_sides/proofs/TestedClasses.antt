-- Lists of the classes that pass a test.
use Rattle.std.proofs.Common.{◌≡◌, ◌≤◌, ◌<◌, ◌+◌, ℕ, Bool, true, false, cond, List, [], ◌∷◌, ◌++◌, refl, sym, ◌∙◌, ap, subst, Option, Some, None, take, map, nat_lt}
use Rattle.std.specs.List.{filter, cons_option}
use Rattle.std.proofs.lemmas.List.{take_all, map-append, append-nil}
use Rattle.std.proofs.lemmas.List.Elements.{filter_more, All-from_recursion}
use Rattle.jc_facts.specs.Names.{Bytes}
use Rattle.jc_facts.specs.Options.{some_where}
use Rattle.jc_promises.specs.rule.Bases.{is_kept}
use Rattle.jc_facts.specs.world.World.{World, size}
use Rattle.jc_lemmas.proofs.Listed.{EachOf, EachOf-append}
use Rattle.jc_index.specs.Ids.{names, name_at}
use Rattle.jc_index.proofs.Numbers.{names-length}
use Rattle.jc_sides.specs.SharedOf.{IsShared, IsWhere, AddsWhere, AreThose, name_of, SharedOf}
use Rattle.jc_sides.specs.SidesOf.{SidesOf, AreSides}
use Rattle.jc_facts.proofs.Options.{some_where-is}

-- a kept class is added where its name passes
pub adds : (test : SidesOf → Bytes → Bool) (s : SidesOf) (x : Bytes) (b : SharedOf) (bs gs : List SharedOf) → IsWhere (is_kept s.old s.new x) s x (Some b) → test s (name_of b) ≡ true → gs ≡ bs ++ b ∷ [] → AddsWhere (test s x) s x bs gs
adds test s x b bs gs h e g = (Some b, (ap (test s) (sym h.1) ∙ e, h.1, h.2), g)

pub adds_none : (test : SidesOf → Bytes → Bool) (s : SidesOf) (x : Bytes) (bs : List SharedOf) → test s x ≡ false → AddsWhere (test s x) s x bs bs
adds_none test s x bs e = (None, e, sym (append-nil bs))

pub failing : (test : SidesOf → Bytes → Bool) (s : SidesOf) (x : Bytes) (b : SharedOf) → IsWhere (is_kept s.old s.new x) s x (Some b) → test s (name_of b) ≡ false → test s x ≡ false
failing test s x b h e = ap (test s) (sym h.1) ∙ e

module _ (test : Bytes → Bool) (s : SidesOf) where
  -- those of the first n classes
  pub record AreSoFar (n : ℕ) (bs : List SharedOf) : Type 0 where
    pub all : map name_of bs ≡ filter test (take n (names s.old))
    pub shared : EachOf (IsShared s) bs

  pub start : (bs : List SharedOf) → bs ≡ [] → AreSoFar 0 bs
  start bs e = subst (AreSoFar 0) (sym e) (record { all = refl; shared = tt })

  next : (n : ℕ) → n < size s.old → filter test (take (n + 1) (names s.old)) ≡ filter test (take n (names s.old)) ++ cond (test (name_at s.old n)) (name_at s.old n ∷ []) []
  next n l = filter_more test (names s.old) n [] (subst (λ m. n < m) (sym (names-length s.old)) l)

  more : (n : ℕ) (bs gs : List SharedOf) (o : Option SharedOf) → n < size s.old → AreSoFar n bs → IsWhere (test (name_at s.old n)) s (name_at s.old n) o → gs ≡ bs ++ cons_option o [] → AreSoFar (n + 1) gs
  more n bs gs None l h e g = record {
    all = ap (map name_of) (g ∙ append-nil bs) ∙ h.all ∙ sym (next n l ∙ ap (λ (b : Bool). filter test (take n (names s.old)) ++ cond b (name_at s.old n ∷ []) []) e ∙ append-nil (filter test (take n (names s.old))));
    shared = subst (EachOf (IsShared s)) (sym (g ∙ append-nil bs)) h.shared;
  }
  more n bs gs (Some b) l h e g = record {
    all = ap (map name_of) g ∙ map-append name_of bs (b ∷ []) ∙ ap (λ (xs : List Bytes). xs ++ name_of b ∷ []) h.all
        ∙ ap (λ (x : Bytes). filter test (take n (names s.old)) ++ x ∷ []) e.1
        ∙ sym (next n l ∙ ap (λ (b : Bool). filter test (take n (names s.old)) ++ cond b (name_at s.old n ∷ []) []) e.0);
    shared = subst (EachOf (IsShared s)) (sym g) (EachOf-append (IsShared s) bs (b ∷ []) h.shared (e.2, tt));
  }

  -- one more class; the table's world is the old side's
  pub one_more : (W : World) → W ≡ s.old → (n k : ℕ) (bs gs : List SharedOf) → n < size W → some_where (nat_lt n (size W)) n ≡ Some k → AreSoFar n bs → AddsWhere (test (name_at s.old k)) s (name_at s.old k) bs gs → AreSoFar (n + 1) gs
  one_more W v n k bs gs l is h e =
      more n bs gs e.0 (subst (λ (V : World). n < size V) v l) h (subst (λ (m : ℕ). IsWhere (test (name_at s.old m)) s (name_at s.old m) e.0) (some_where-is (nat_lt n (size W)) n k is) e.1) e.2

  -- all classes
  pub all_classes : AreSides s → (W : World) → W ≡ s.old → (n : ℕ) (bs : List SharedOf) → size W ≤ n → AreSoFar n bs → AreThose test s bs
  all_classes are W v n bs l h = record {
    sides = are;
    all = h.all ∙ ap (filter test) (take_all n (names s.old) (subst (λ m. m ≤ n) (sym (names-length s.old)) (subst (λ (V : World). size V ≤ n) v l)));
    shared = All-from_recursion (IsShared s) bs h.shared;
  }
