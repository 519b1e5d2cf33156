-- The names of two planned clients, one below each of two seats that are apart.
use Rattle.std.proofs.Common.{◌≡◌, Bool, true, false, List, [], ◌∷◌, refl, sym, ◌∙◌, ap, subst, Option, Some, None, not, ◌&&◌, ◌||◌}
use mathlib.Core.Path.{fun_ext}
use Rattle.std.proofs.Math.Bool.{and-true}
use Rattle.std.proofs.lemmas.Bool.{and_parts, both_ways, not-true}
use Rattle.std.specs.List.{list_any}
use Rattle.jc_facts.specs.Names.{Bytes, same, is_name_among}
use Rattle.jc_facts.specs.Options.{and_then}
use Rattle.jc_facts.specs.world.World.{World}
use Rattle.jc_facts.specs.world.Modules.{OfClients}
use Rattle.jc_facts.specs.world.Loading.{excludes}
use Rattle.jc_facts.specs.world.Mentioned.{permitted}
use Rattle.jc_promises.specs.rule.Apart.{has_other, permit_two, are_apart}
use Rattle.jc_promises.specs.rule.Bases.{allowed, permits_some}
use Rattle.jc_promises.specs.plan.PlannedNames.{value_or, least_name, leaves_another, first_name, second_name}
use Rattle.jc_facts.proofs.Same.{same_is}
use Rattle.jc_lemmas.proofs.Bools.{neither_first, neither_last}
use Rattle.jc_complete.proofs.PlanGround.{Ready, letter}
use Rattle.jc_complete.proofs.PlanBase.{IsBase, OldName, OwnName, least_name-is, least_name-some, letters_apart, let_in, still_let_in, all_let_in}
use Rattle.jc_complete.proofs.PlanInterfaceMethodLost.{same_back}

-- where a name passes and x is none of them, one other than x passes
other_passes : (test : Bytes → Bool) (x : Bytes) (ys : List Bytes) → list_any test ys ≡ true → is_name_among ys x ≡ false → list_any (λ y. test y && not (same x y)) ys ≡ true
other_passes test x [] h n = absurd (let z : false ≡ true = h in cc)
other_passes test x (y ∷ ys) h n = go (test y) h (λ q. other_passes test x ys q (neither_last (same y x) (is_name_among ys x) n))
  where
    apart : same x y ≡ false
    apart = same_back y x (neither_first (same y x) (is_name_among ys x) n)

    go : (b : Bool) → (b || list_any test ys) ≡ true → (list_any test ys ≡ true → list_any (λ y. test y && not (same x y)) ys ≡ true) → ((b && not (same x y)) || list_any (λ y. test y && not (same x y)) ys) ≡ true
    go true q f = rw apart refl
    go false q f = f q

module _ (O N : World) (w : Bytes) (r : Ready O N w) (a b : Bytes) (ba : IsBase O N a) (bb : IsBase O N b) (apart : are_apart O N a b ≡ true) where
  abbrev pa : Option (List Bytes)
  pa = ba.was.class.permits

  abbrev pb : Option (List Bytes)
  pb = bb.was.class.permits

  -- two names that differ, for a client below a and for one below b
  pub record AreTwo (z y : Bytes) : Type 0 where
    pub first : OwnName O N ba.was.class ba.now.class z
    pub second : OwnName O N bb.was.class bb.now.class y
    pub differ : same z y ≡ false

  two : permit_two O N pa pb ≡ true
  unfolding are_apart and_then
  two = rw (ba.was.is_there, bb.was.is_there) at apart

  abbrev beside : Option (List Bytes) → Bytes → Bool
  beside q x = allowed O N x && leaves_another O N x q

  abbrev another : Bytes → Bytes → Bool
  another z y = allowed O N y && not (same z y)

  abbrev first_of : Option (List Bytes) → Option (List Bytes) → Bytes
  first_of p q = value_or (letter w 90) (least_name (beside q) (permitted p))

  abbrev second_of : Bytes → Option (List Bytes) → Bytes
  second_of z q = value_or (letter w 89) (least_name (another z) (permitted q))

  first_is : first_name O N (letter w 90) a b ≡ first_of pa pb
  unfolding and_then
  first_is = rw (ba.was.is_there, bb.was.is_there) refl

  second_is : (z : Bytes) → second_name O N (letter w 89) z b ≡ second_of z pb
  unfolding and_then
  second_is z = rw bb.was.is_there refl

  takes_a : excludes O ba.was.class OfClients ≡ false
  takes_a = not-true (excludes O ba.was.class OfClients) (and_parts (not (excludes O ba.was.class OfClients)) (permits_some O N pa) ba.opens).0

  takes_b : excludes O bb.was.class OfClients ≡ false
  takes_b = not-true (excludes O bb.was.class OfClients) (and_parts (not (excludes O bb.was.class OfClients)) (permits_some O N pb) bb.opens).0

  some_a : (xs : List Bytes) → pa ≡ Some xs → list_any (allowed O N) xs ≡ true
  some_a xs e = subst (λ p. permits_some O N p ≡ true) e (and_parts (not (excludes O ba.was.class OfClients)) (permits_some O N pa) ba.opens).1

  some_b : (ys : List Bytes) → pb ≡ Some ys → list_any (allowed O N) ys ≡ true
  some_b ys e = subst (λ p. permits_some O N p ≡ true) e (and_parts (not (excludes O bb.was.class OfClients)) (permits_some O N pb) bb.opens).1

  -- the name z of the first client, which stands, and that of the second
  made : (z : Bytes) → OldName O N ba.was.class z → (y : Bytes) → OldName O N bb.was.class y → same z y ≡ false → AreTwo z y
  made z m y n d = record {
    first = still_let_in O N a ba.was.class ba.now.class ba.was.is_there ba.now.is_there ba.leaves z m;
    second = still_let_in O N b bb.was.class bb.now.class bb.was.is_there bb.now.is_there bb.leaves y n;
    differ = d;
  }

  -- below b where that has no permitted names
  beside_letter : (z : Bytes) → OldName O N ba.was.class z → same z (letter w 89) ≡ false → pb ≡ None → AreTwo z (second_of z None)
  unfolding least_name
  beside_letter z m d e = made z m (letter w 89) (all_let_in O N w r b bb.was.class bb.was.is_there 89 refl e takes_b) d

  -- and where it has some
  beside_listed : (z : Bytes) → OldName O N ba.was.class z → (ys : List Bytes) → pb ≡ Some ys → has_other O N z ys ≡ true → AreTwo z (second_of z (Some ys))
  beside_listed z m ys e h =
      let some = least_name-some (another z) ys h in
      let is = least_name-is (another z) ys some.0 some.1 in
      let both = and_parts (allowed O N some.0) (not (same z some.0)) is.0 in
      subst (λ o. AreTwo z (value_or (letter w 89) o)) (sym some.1) (made z m some.0 (let_in O N bb.was.class ys some.0 (r.old.valid b bb.was.class bb.was.is_there) e takes_b both.0 is.1) (not-true (same z some.0) both.1))

  -- one of the permitted names of a is none of the package
  unlike_letter : (xs : List Bytes) → pa ≡ Some xs → (z : Bytes) → is_name_among xs z ≡ true → same z (letter w 89) ≡ false
  unlike_letter xs e z i = go (same z (letter w 89)) refl
    where
      go : (t : Bool) → same z (letter w 89) ≡ t → t ≡ false
      go false p = refl
      go true p = absurd (both_ways (is_name_among xs (letter w 89)) (subst (λ o. is_name_among (permitted o) (letter w 89) ≡ false) e (r.old.unpermitted 89 refl a ba.was.class ba.was.is_there)) (subst (λ x. is_name_among xs x ≡ true) (same_is z (letter w 89) p) i))

  -- below a where that has permitted names
  listed : (xs : List Bytes) → pa ≡ Some xs → (q : Option (List Bytes)) → pb ≡ q → list_any (beside q) xs ≡ true → AreTwo (first_of (Some xs) q) (second_of (first_of (Some xs) q) q)
  listed xs e q f h = subst (λ o. AreTwo (value_or (letter w 90) o) (second_of (value_or (letter w 90) o) q)) (sym some.1) (go q f both.1)
    where
      some : (z : Bytes) × (least_name (beside q) xs ≡ Some z)
      some = least_name-some (beside q) xs h

      is : (beside q some.0 ≡ true) × (is_name_among xs some.0 ≡ true)
      is = least_name-is (beside q) xs some.0 some.1

      both : (allowed O N some.0 ≡ true) × (leaves_another O N some.0 q ≡ true)
      both = and_parts (allowed O N some.0) (leaves_another O N some.0 q) is.0

      own : OldName O N ba.was.class some.0
      own = let_in O N ba.was.class xs some.0 (r.old.valid a ba.was.class ba.was.is_there) e takes_a both.0 is.1

      go : (q : Option (List Bytes)) → pb ≡ q → leaves_another O N some.0 q ≡ true → AreTwo some.0 (second_of some.0 q)
      go None f l = beside_letter some.0 own (unlike_letter xs e some.0 is.1) f
      go (Some ys) f l = beside_listed some.0 own ys f l

  pick : (p : Option (List Bytes)) → pa ≡ p → (q : Option (List Bytes)) → pb ≡ q → permit_two O N p q ≡ true → AreTwo (first_of p q) (second_of (first_of p q) q)
  unfolding least_name
  pick None e None f h = beside_letter (letter w 90) (all_let_in O N w r a ba.was.class ba.was.is_there 90 refl e takes_a) (letters_apart w 90 89 refl) f
  pick None e (Some ys) f h =
      beside_listed (letter w 90) (all_let_in O N w r a ba.was.class ba.was.is_there 90 refl e takes_a) ys f
      (other_passes (allowed O N) (letter w 90) ys (some_b ys f) (subst (λ o. is_name_among (permitted o) (letter w 90) ≡ false) f (r.old.unpermitted 90 refl b bb.was.class bb.was.is_there)))
  pick (Some xs) e None f h = listed xs e None f (ap (λ (test : Bytes → Bool). list_any test xs) (fun_ext (λ x. and-true (allowed O N x))) ∙ some_a xs e)
  pick (Some xs) e (Some ys) f h = listed xs e (Some ys) f h

  pub two_names : AreTwo (first_name O N (letter w 90) a b) (second_name O N (letter w 89) (first_name O N (letter w 90) a b) b)
  two_names = subst (λ z. AreTwo z (second_name O N (letter w 89) z b)) (sym first_is) (subst (λ y. AreTwo (first_of pa pb) y) (sym (second_is (first_of pa pb))) (pick pa refl pb refl two))
