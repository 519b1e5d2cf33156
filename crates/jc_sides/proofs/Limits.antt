-- Lists within a limit, and past it.
--     past_of      a list that is exact of some of what stands, and past the limit
--     past_beside      a list within the limit, and then more than what the limit leaves beside it
--     within_both      a list within the limit, and then one within what is left
use Rattle.std.proofs.Common.{◌≡◌, ◌≤◌, ◌<◌, ◌-◌, ◌+◌, ℕ, Bool, true, false, List, ◌++◌, length, ap, sym, subst, ◌∙◌, Option, Some, None, arith, refl}
use Rattle.std.specs.Option.{IsSome}
use Rattle.std.specs.Prelude.{option_map}
use Rattle.std.specs.declared.cmp.Ordering.{Ordering}
use Rattle.std.specs.declared.cmp.Ordering.TheVariants.{Less}
use Rattle.std.proofs.lemmas.Bool.{lt-ltb, le-ltb, ltb-true, ltb-false}
use Rattle.std.proofs.lemmas.List.{length-append}
use Rattle.std.proofs.lemmas.List.Elements.{All-weaker, All-append, All-contains}
use Rattle.jc_facts.specs.Exactly.{HasExactly}
use Rattle.jc_facts.proofs.InOrder.{rises_append}
use Rattle.jc_sides.specs.Limit.{HasMore, IsWithin, over, beside}

-- ---- numbers

pub over_none : (most : Option ℕ) → over 0 most ≡ false
over_none None = refl
over_none (Some most) = le-ltb most 0 (omega arith)

pub over_both : (most : Option ℕ) (n m : ℕ) → over n most ≡ false → over m (beside most n) ≡ true → over (n + m) most ≡ true
over_both None n m a b = absurd (cc)
over_both (Some most) n m a b = lt-ltb most (n + m) (let p : n ≤ most = ltb-false most n a in let q : most - n < m = ltb-true (most - n) m b in omega arith)

pub within_sum : (most : Option ℕ) (n m : ℕ) → over n most ≡ false → over m (beside most n) ≡ false → over (n + m) most ≡ false
within_sum None n m a b = refl
within_sum (Some most) n m a b = le-ltb most (n + m) (let p : n ≤ most = ltb-false most n a in let q : m ≤ most - n = ltb-false (most - n) m b in omega arith)

-- ---- lists

-- what a test of a list's length says of it
pub told : {F : Type 0} (most : Option ℕ) (xs : List F) (n : ℕ) (b r : Bool) → n ≡ length xs → b ≡ over n most → b ≡ r → over (length xs) most ≡ r
told most xs n b r e q k = ap (λ m. over m most) (sym e) ∙ sym q ∙ k

pub within_both : {F : Type 0} (most : Option ℕ) (xs ys zs : List F) → zs ≡ xs ++ ys → over (length xs) most ≡ false → over (length ys) (beside most (length xs)) ≡ false → over (length zs) most ≡ false
within_both most xs ys zs e a b = ap (λ l. over (length l) most) e ∙ ap (λ n. over n most) (length-append xs ys) ∙ within_sum most (length xs) (length ys) a b

-- of a list that there is, or isn't
module _ {F V : Type 0} (order : F → F → Ordering) (Stand : F → Type 0) (most : Option ℕ) (items : V → List F) (o : Option V) where
  pub some_within : (v : V) → o ≡ Some v → IsWithin order Stand most (option_map items o) → HasExactly order Stand (items v) × (over (length (items v)) most ≡ false)
  some_within v e h = subst (λ (p : Option V). IsWithin order Stand most (option_map items p)) e h

  pub none_within : o ≡ None → IsWithin order Stand most (option_map items o) → HasMore order Stand most
  none_within e h = subst (λ (p : Option V). IsWithin order Stand most (option_map items p)) e h

-- without a limit there is a list
pub always_some : {F V : Type 0} (order : F → F → Ordering) (Stand : F → Type 0) (items : V → List F) (o : Option V) → IsWithin order Stand None (option_map items o) → IsSome o
always_some order Stand items None h = absurd (let clash : false ≡ true = h.many in cc)
always_some order Stand items (Some v) h = refl

module _ {F : Type 0} (order : F → F → Ordering) where
  pub past_of : (P Q : F → Type 0) (most : Option ℕ) (xs : List F) → ((f : F) → P f → Q f) → HasExactly order P xs → over (length xs) most ≡ true → HasMore order Q most
  past_of P Q most xs to h o = record { some = xs; in_order = h.in_order; stand = All-weaker P Q to xs h.sound; many = o }

  pub past_beside : (P Q R : F → Type 0) (most : Option ℕ) (xs : List F) → ((f : F) → P f → R f) → ((f : F) → Q f → R f) → ((f g : F) → P f → Q g → order f g ≡ Less)
      → HasExactly order P xs → over (length xs) most ≡ false → HasMore order Q (beside most (length xs)) → HasMore order R most
  past_beside P Q R most xs first then before h within more = record {
    some = xs ++ more.some;
    in_order = rises_append order xs more.some h.in_order more.in_order (λ f g c d. before f g (All-contains P xs f h.sound c) (All-contains Q more.some g more.stand d));
    stand = All-append R xs more.some (All-weaker P R first xs h.sound) (All-weaker Q R then more.some more.stand);
    many = ap (λ n. over n most) (length-append xs more.some) ∙ over_both most (length xs) (length more.some) within more.many;
  }
