-- Options, beside the lemmas of std.
use Rattle.std.proofs.Common.{◌≡◌, false, refl, Option, Some, None, Bool, true, cond, is_none}
use Rattle.std.specs.Prelude.{is_some}

pub none_from : {A : Type 0} (o : Option A) → is_some o ≡ false → o ≡ None
none_from None e = refl
none_from (Some x) e = absurd (cc)

pub cond-none : {A : Type 0} (b : Bool) (e : A) (o : Option A) → cond b (Some e) o ≡ None → (b ≡ false) × (o ≡ None)
cond-none true e o h = absurd (cc)
cond-none false e o h = (refl, h)

pub none_where : {A : Type 0} (o : Option A) → is_none o ≡ true → o ≡ None
none_where None h = refl
none_where (Some x) h = absurd (cc)

-- where a test holds, the first of two is chosen
pub taken : {A : Type 0} (b : Bool) (o p q : Option A) → b ≡ true → cond b o p ≡ q → o ≡ q
taken true o p q e h = h
taken false o p q e h = absurd (cc)

-- where it doesn't, the second
pub passed : {A : Type 0} (b : Bool) (o p q : Option A) → b ≡ false → cond b o p ≡ q → p ≡ q
passed true o p q e h = absurd (cc)
passed false o p q e h = h

pub cond_none : {A : Type 0} (b : Bool) (o p : Option A) → o ≡ None → p ≡ None → cond b o p ≡ None
cond_none true o p e f = e
cond_none false o p e f = f
