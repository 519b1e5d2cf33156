-- Tests that are true or false, beside the lemmas of std.
use Rattle.std.proofs.Common.{◌≡◌, Bool, true, false, not, ◌||◌, refl, ◌&&◌}
use Rattle.std.specs.Bool.{beq}
use Rattle.std.specs.Cmp.{first_so, second_so}

pub imply : (i p : Bool) → (not i || p) ≡ true → i ≡ true → p ≡ true
imply true p h e = h
imply false p h e = absurd (cc)

pub and_not : (a b : Bool) → (a && not b) ≡ false → a ≡ true → b ≡ true
and_not true true h e = refl
and_not true false h e = absurd (cc)
and_not false b h e = absurd (cc)

pub neither_last : (a b : Bool) → (a || b) ≡ false → b ≡ false
neither_last true b h = absurd (cc)
neither_last false b h = h

pub and_false : (a b : Bool) → (a && b) ≡ false → a ≡ true → b ≡ false
and_false true b h e = h
and_false false b h e = absurd (cc)

pub neither_first : (b c : Bool) → (b || c) ≡ false → b ≡ false
neither_first true c h = h
neither_first false c h = refl

pub or_under : (b x y : Bool) → (x ≡ true → y ≡ true) → (b || x) ≡ true → (b || y) ≡ true
or_under true x y f h = refl
or_under false x y f h = f h

pub or_without : (a b : Bool) → b ≡ false → (a || b) ≡ true → a ≡ true
or_without true b h k = refl
or_without false b h k = absurd (cc)

pub or_assoc : (a b c : Bool) → ((a || b) || c) ≡ (a || (b || c))
or_assoc true b c = refl
or_assoc false b c = refl

pub contradicts : (b : Bool) → b ≡ true → b ≡ false → ⊥
contradicts b h k = cc

pub second_of_five : (a b c d e : Bool) → (a && b && c && d && e) ≡ true → b ≡ true
second_of_five a b c d e h = second_so a b (first_so (a && b) c (first_so (a && b && c) d (first_so (a && b && c && d) e h)))

pub third_of_five : (a b c d e : Bool) → (a && b && c && d && e) ≡ true → c ≡ true
third_of_five a b c d e h = second_so (a && b) c (first_so (a && b && c) d (first_so (a && b && c && d) e h))

pub beq_is : (a b : Bool) → beq a b ≡ true → a ≡ b
beq_is true true h = refl
beq_is true false h = absurd (cc)
beq_is false true h = absurd (cc)
beq_is false false h = refl
