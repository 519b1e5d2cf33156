-- What holds of the value of an option, where it has one: of what an instruction gives, by the steps that lead to it.
use Rattle.std.proofs.Common.{◌≡◌, Bool, true, false, cond, Option, Some, None, refl, subst}
use Rattle.jc_facts.specs.file.Attributes.{◌|>>◌}

pub record Each {A : Type 0} (P : A → Type 0) (o : Option A) : Type 0 where
  pub holds : (x : A) → o ≡ Some x → P x

pub nowhere : {A : Type 0} (P : A → Type 0) → Each P None
nowhere {A} P = record { holds = λ x e. absurd cc }

pub there : {A : Type 0} (P : A → Type 0) (x : A) → P x → Each P (Some x)
there {A} P x h = record { holds = λ y e. let q : x ≡ y = (let r : Some x ≡ Some y = e in cc) in subst P q h }

pub then : {A B : Type 0} (P : B → Type 0) (o : Option A) (f : A → Option B) → ((x : A) → o ≡ Some x → Each P (f x)) → Each P (o |>> f)
then {A} {B} P None f h = nowhere P
then {A} {B} P (Some x) f h = h x refl

pub either : {A : Type 0} (P : A → Type 0) (b : Bool) (x y : Option A) → (b ≡ true → Each P x) → (b ≡ false → Each P y) → Each P (cond b x y)
either {A} P true x y h k = h refl
either {A} P false x y h k = k refl
