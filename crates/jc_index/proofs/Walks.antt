-- Walks up the superclasses of a class, which look at the interfaces that each of them leads to.
use Rattle.std.proofs.Common.{◌≡◌, ◌<◌, ℕ, suc, Bool, true, false, ◌==◌, List, [], ◌∷◌, refl, sym, ◌∙◌, ap, subst, Option, Some, None, is_some, ◌⊎◌, inl, inr}
use Rattle.std.specs.Prelude.{IsTrue}
use Rattle.std.specs.List.{list_any}
use Rattle.std.proofs.lemmas.Bool.{eqb-true, eq-eqb, or_cases, or_left, or_right}
use Rattle.std.proofs.lemmas.List.Elements.{recursion_from_All}
use Rattle.jc_facts.specs.Names.{Bytes}
use Rattle.jc_facts.specs.world.World.{World, size, classes, differ_by_name}
use Rattle.jc_facts.specs.world.Hierarchy.{is_superinterface}
use Rattle.jc_lemmas.proofs.Listed.{EachOf}
use Rattle.jc_index.specs.Ids.{name_at, superclass_of}
use Rattle.jc_index.specs.Above.{leads_by, AreAbove}
use Rattle.jc_index.specs.declared.ids.Found.{Found}
use Rattle.jc_index.proofs.Aboves.{any_up, superinterface-is, any-none_left, any-here, any-top, any-above}
use Rattle.jc_index.specs.steps.Choosing.{found_or, first_at, FindsAbove}

-- ---- the first of some numbers

-- one of the numbers gives it
pub record IsGiven (f : ℕ → Option Found) (ns : List ℕ) (r : Found) : Type 0 where
  pub number : ℕ
  pub is_in : list_any (λ j. j == number) ns ≡ true
  pub gives : f number ≡ Some r

first_is : (f : ℕ → Option Found) (ns : List ℕ) (r : Found) → first_at f ns ≡ Some r → IsGiven f ns r
first_is f [] r e = absurd (let clash : None ≡ Some r = e in cc)
first_is f (n ∷ ns) r e = go (f n) refl e (first_is f ns r)
  where
    go : (o : Option Found) → f n ≡ o → found_or o (first_at f ns) ≡ Some r → (first_at f ns ≡ Some r → IsGiven f ns r) → IsGiven f (n ∷ ns) r
    go None q e more = let i : IsGiven f ns r = more e in record { number = i.number; is_in = or_right (n == i.number) (list_any (λ j. j == i.number) ns) i.is_in; gives = i.gives }
    go (Some g) q e more = record { number = n; is_in = or_left (n == n) (list_any (λ j. j == n) ns) (eq-eqb n n refl); gives = q ∙ e }

first_none : (f : ℕ → Option Found) (ns : List ℕ) → first_at f ns ≡ None → (n : ℕ) → list_any (λ j. j == n) ns ≡ true → f n ≡ None
first_none f [] e n h = absurd (let clash : false ≡ true = h in cc)
first_none f (m ∷ ns) e n h = go (f m) refl e (or_cases (m == n) (list_any (λ j. j == n) ns) h) (first_none f ns)
  where
    go : (o : Option Found) → f m ≡ o → found_or o (first_at f ns) ≡ None → ((m == n) ≡ true) ⊎ (list_any (λ j. j == n) ns ≡ true)
        → (first_at f ns ≡ None → (n : ℕ) → list_any (λ j. j == n) ns ≡ true → f n ≡ None) → f n ≡ None
    go (Some g) q e c more = absurd (let clash : Some g ≡ None = e in cc)
    go None q e (inl i) more = ap f (sym (eqb-true m n i)) ∙ q
    go None q e (inr i) more = more e n i

each_number : (P : ℕ → Type 0) (ns : List ℕ) (n : ℕ) → EachOf P ns → list_any (λ j. j == n) ns ≡ true → P n
each_number P [] n h e = absurd (let clash : false ≡ true = e in cc)
each_number P (m ∷ ns) n h e = go (or_cases (m == n) (list_any (λ j. j == n) ns) e) (each_number P ns n h.1)
  where
    go : ((m == n) ≡ true) ⊎ (list_any (λ j. j == n) ns ≡ true) → (list_any (λ j. j == n) ns ≡ true → P n) → P n
    go (inl i) more = subst P (eqb-true m n i) h.0
    go (inr i) more = more i

-- a number of the list is one of the table's
pub number_within : (W : World) (x : Bytes) (ns : List ℕ) (n : ℕ) → AreAbove W x ns → list_any (λ j. j == n) ns ≡ true → n < size W
number_within W x ns n up h = each_number (λ j. j < size W) ns n (recursion_from_All (λ j. j < size W) ns up.within) h

-- ---- the walk

-- the walk has come to the class of number `at`: what f gives of a superinterface of x, it gives of one from there up
pub record IsOnWay (W : World) (x : Bytes) (f : ℕ → Option Found) (left at : ℕ) : Type 0 where
  pub within : at < size W
  pub same : (n : ℕ) → n < size W → is_some (f n) ≡ true → is_superinterface W x (name_at W n) ≡ any_up W left (name_at W at) (name_at W n)

pub way_starts : (W : World) (f : ℕ → Option Found) (a m : ℕ) → a < size W → m ≡ size W → IsOnWay W (name_at W a) f m a
way_starts W f a m l e = record {
  within = l;
  same = λ n b s. superinterface-is W (name_at W a) (name_at W n) ∙ ap (λ j. any_up W j (name_at W a) (name_at W n)) (sym e);
}

module _ (W : World) (d : IsTrue (differ_by_name (classes W))) (x : Bytes) (f : ℕ → Option Found) where
  -- it is found here
  pub way_found : (m a : ℕ) (ids : List ℕ) (o : Option Found) (r : Found) → IsOnWay W x f m a → 0 < m → AreAbove W (name_at W a) ids → o ≡ first_at f ids → o ≡ Some r → FindsAbove W x f (Some r)
  way_found m a ids o r h l up p q =
      let i : IsGiven f ids r = first_is f ids r (sym p ∙ q) in
      let b : i.number < size W = number_within W (name_at W a) ids i.number up i.is_in in
      (i.number, b, h.same i.number b (ap is_some i.gives) ∙ any-here W d a h.within (name_at W i.number) m l (sym (up.exact i.number b) ∙ i.is_in), i.gives)

  -- what is not found here is not led to from here
  not_led : (a : ℕ) (ids : List ℕ) (o : Option Found) → AreAbove W (name_at W a) ids → o ≡ first_at f ids → o ≡ None → (n : ℕ) → n < size W → is_some (f n) ≡ true → leads_by W (name_at W a) (name_at W n) ≡ false
  not_led a ids o up p q n b s = sym (up.exact n b) ∙ go (list_any (λ j. j == n) ids) refl
    where
      go : (t : Bool) → list_any (λ j. j == n) ids ≡ t → t ≡ false
      go true e = absurd (let z : f n ≡ None = first_none f ids (sym p ∙ q) n e in let w : false ≡ true = sym (ap is_some z) ∙ s in cc)
      go false e = refl

  -- it is looked for further up
  pub way_on : (m n a t : ℕ) (ids : List ℕ) (o : Option Found) → IsOnWay W x f m a → suc n ≡ m → AreAbove W (name_at W a) ids → o ≡ first_at f ids → o ≡ None
      → Some t ≡ superclass_of W (name_at W a) → t < size W → IsOnWay W x f n t
  way_on m n a t ids o h e up p q u l = record {
    within = l;
    same = λ j b s. h.same j b s ∙ any-above W d a h.within (name_at W j) m n t e (not_led a ids o up p q j b s) u;
  }

  nothing : ((n : ℕ) → n < size W → is_some (f n) ≡ true → is_superinterface W x (name_at W n) ≡ false) → FindsAbove W x f None
  nothing h n b s = go (f n) refl
    where
      go : (o : Option Found) → f n ≡ o → o ≡ None
      go None e = refl
      go (Some r) e = absurd (let z : false ≡ true = sym (h n b (ap is_some e)) ∙ s in cc)

  -- nothing is further up
  pub way_top : (m a : ℕ) (ids : List ℕ) (o : Option Found) → IsOnWay W x f m a → 0 < m → AreAbove W (name_at W a) ids → o ≡ first_at f ids → o ≡ None → None ≡ superclass_of W (name_at W a) → FindsAbove W x f None
  way_top m a ids o h l up p q u = nothing (λ n b s. h.same n b s ∙ any-top W d a h.within (name_at W n) m l (not_led a ids o up p q n b s) u)

  -- no step is left
  pub way_out : (m a : ℕ) → IsOnWay W x f m a → m ≡ 0 → FindsAbove W x f None
  way_out m a h e = nothing (λ n b s. h.same n b s ∙ ap (λ j. any_up W j (name_at W a) (name_at W n)) e ∙ any-none_left W d a h.within (name_at W n))
