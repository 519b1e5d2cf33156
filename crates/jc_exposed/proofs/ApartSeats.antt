-- Seats that are apart, and the first of them.
use Rattle.std.proofs.Common.{◌≡◌, ◌==◌, ℕ, Bool, true, false, List, [], ◌∷◌, length, map, sym, ◌∙◌, ap, subst, refl, Option, Some, None, is_some, ◌&&◌}
use Rattle.std.specs.Prelude.{IsTrue}
use Rattle.std.specs.List.{find as first_where}
use Rattle.std.proofs.Math.Bool.{and-false}
use Rattle.std.proofs.lemmas.Bool.{and_parts}
use Rattle.jc_facts.specs.declared.class_facts.ClassFacts.{ClassFacts}
use Rattle.jc_facts.specs.Names.{Bytes}
use Rattle.jc_facts.specs.Options.{and_then}
use Rattle.jc_facts.specs.world.World.{classes, differ_by_name, find_class}
use Rattle.jc_lemmas.proofs.Listed.{any_none, each_of}
use Rattle.jc_lemmas.proofs.Numbers.{suc_zero}
use Rattle.jc_promises.specs.rule.Apart.{are_apart, other_seat, permit_two, permits_of}
use Rattle.jc_promises.specs.rule.Exposed.{is_exposed, is_hidden}
use Rattle.jc_promises.specs.rule.OpenActs.{first_seat}
use Rattle.jc_index.specs.Ids.{name_at}
use Rattle.jc_sides.specs.SharedOf.{SharedOf, IsShared, name_of}
use Rattle.jc_sides.specs.SidesOf.{SidesOf}
use Rattle.jc_acts.specs.Seats.{all_seats}
use Rattle.jc_acts.proofs.Firsts.{seat_is}
use Rattle.jc_exposed.specs.Apart.{hands_on, is_other_for}
use Rattle.jc_exposed.proofs.SeatStarts.{none_first}

-- what the records of the two classes permit; t are the tables' worlds
pub apart_is : (t s : SidesOf) → t ≡ s → (m n : ℕ) (c d : ClassFacts) → Some c ≡ find_class t.old (name_at t.old m) → Some d ≡ find_class t.old (name_at t.old n)
    → permit_two s.old s.new c.permits d.permits ≡ are_apart s.old s.new (name_at s.old m) (name_at s.old n)
unfolding are_apart and_then
apart_is t s v m n c d e f =
    subst (λ (u : SidesOf). permit_two u.old u.new c.permits d.permits ≡ are_apart u.old u.new (name_at u.old m) (name_at u.old n)) v
    (ap (λ o. permit_two t.old t.new (and_then (λ x. x.permits) o) d.permits) e ∙ ap (λ o. permit_two t.old t.new (permits_of t.old (name_at t.old m)) (and_then (λ x. x.permits) o)) f)

-- the other seat as its fields have it
pub of_seat : (s : SidesOf) (d b : SharedOf) → d ≡ b → IsShared s b → (a : Bytes) (t : ℕ) (x r : Bool) → x ≡ is_exposed s.old (name_of b) (name_at s.old t) → r ≡ are_apart s.old s.new a (name_at s.old d.old)
    → (x && r) ≡ is_other_for s a t (name_of b)
of_seat s d b w shared a t x r e f =
    ap (λ z. z && r) e ∙ ap (λ z. is_exposed s.old (name_of b) (name_at s.old t) && z) (f ∙ ap (are_apart s.old s.new a) (ap (λ (c : SharedOf). name_at s.old c.old) w ∙ shared.old_name))

-- the seat that hands on, as its fields have it
pub handing_seat : (s : SidesOf) (d b : SharedOf) → d ≡ b → IsShared s b → (f t : ℕ) (others : List Bytes) (x y : Bool) (o : Option Bytes) → x ≡ is_exposed s.old (name_of b) (name_at s.old f) → y ≡ is_some o
    → o ≡ first_where (is_other_for s (name_at s.old d.old) t) others → (x && y) ≡ hands_on s f t others (name_of b)
handing_seat s d b w shared f t others x y o e g h =
    ap (λ z. z && y) e
    ∙ ap (λ z. is_exposed s.old (name_of b) (name_at s.old f) && z) (g ∙ ap is_some (h ∙ ap (λ a. first_where (is_other_for s a t) others) (ap (λ (c : SharedOf). name_at s.old c.old) w ∙ shared.old_name)))

-- of whom the class isn't exposed, none is asked
pub only_exposed : (s : SidesOf) (a b : Bytes) (t : ℕ) → is_other_for s a t b ≡ true → is_exposed s.old b (name_at s.old t) ≡ true
only_exposed s a b t h = (and_parts (is_exposed s.old b (name_at s.old t)) (are_apart s.old s.new a b) h).0

pub only_handing : (s : SidesOf) (f t : ℕ) (others : List Bytes) (a : Bytes) → hands_on s f t others a ≡ true → is_exposed s.old a (name_at s.old f) ≡ true
only_handing s f t others a h = (and_parts (is_exposed s.old a (name_at s.old f)) (is_some (first_where (is_other_for s a t) others)) h).0

module _ (s : SidesOf) (f t : ℕ) (others : List Bytes)
    (whole : (test : Bytes → Bool) → ((a : Bytes) → test a ≡ true → is_exposed s.old a (name_at s.old t) ≡ true) → first_where test others ≡ first_seat s.old s.new test) where
  other_is : (a : Bytes) → first_where (is_other_for s a t) others ≡ other_seat s.old s.new a (name_at s.old t)
  unfolding other_seat
  other_is a = whole (is_other_for s a t) (λ b h. only_exposed s a b t h)

  -- those others are all that count
  pub handing_is : first_seat s.old s.new (hands_on s f t others) ≡ first_seat s.old s.new (λ a. is_exposed s.old a (name_at s.old f) && is_some (other_seat s.old s.new a (name_at s.old t)))
  handing_is = ap (first_seat s.old s.new) (λ i a. is_exposed s.old a (name_at s.old f) && is_some (other_is a i))

  -- where there is none, nobody hands on
  pub none_hands : others ≡ [] → (a : Bytes) → hands_on s f t others a ≡ false
  none_hands e a = ap (λ xs. hands_on s f t xs a) e ∙ and-false (is_exposed s.old a (name_at s.old f))

  pub no_others : IsTrue (differ_by_name (classes s.old)) → others ≡ [] → None ≡ first_seat s.old s.new (λ a. is_exposed s.old a (name_at s.old f) && is_some (other_seat s.old s.new a (name_at s.old t)))
  no_others differ e =
      sym (sym handing_is ∙ seat_is s differ (hands_on s f t others) ∙ none_first (hands_on s f t others) (all_seats s) (any_none (hands_on s f t others) (all_seats s) (each_of (λ a. hands_on s f t others a ≡ false) (none_hands e) (all_seats s))))

-- a class that isn't hidden has no other seat
pub none_for : (s : SidesOf) → IsTrue (differ_by_name (classes s.old)) → (a t : Bytes) → is_hidden s.old t ≡ false → None ≡ other_seat s.old s.new a t
unfolding other_seat is_exposed
none_for s differ a t h =
    let test : Bytes → Bool = λ b. is_exposed s.old b t && are_apart s.old s.new a b in
    sym (seat_is s differ test ∙ none_first test (all_seats s) (any_none test (all_seats s) (each_of (λ b. test b ≡ false) (λ b. rw h refl) (all_seats s))))

-- nothing is in a list that is empty
pub no_names : (ys : List SharedOf) (b : Bool) → b ≡ true → b ≡ (length ys == 0) → map name_of ys ≡ []
no_names [] b t e = refl
no_names (y ∷ ys) b t e = absurd (let z : true ≡ false = sym t ∙ e ∙ suc_zero (length ys) in cc)
