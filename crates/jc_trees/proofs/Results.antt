-- What a result is: a value or an error, and one of them.
use Rattle.std.proofs.Common.{◌≡◌, sym, ◌∙◌}
use Rattle.std.specs.Prelude.{Result, Ok, Err}

pub same_ok : {A E : Type 0} (r : Result A E) (x y : A) → r ≡ Ok x → r ≡ Ok y → x ≡ y
same_ok (Ok z) x y h k = let a : z ≡ x = cc in let b : z ≡ y = cc in sym a ∙ b
same_ok (Err e) x y h k = absurd (cc)

pub same_err : {A E : Type 0} (r : Result A E) (e f : E) → r ≡ Err e → r ≡ Err f → e ≡ f
same_err (Err g) e f h k = let a : g ≡ e = cc in let b : g ≡ f = cc in sym a ∙ b
same_err (Ok z) e f h k = absurd (cc)

pub ok_or_err : {A E : Type 0} (r : Result A E) (x : A) (e : E) → r ≡ Ok x → r ≡ Err e → ⊥
ok_or_err (Ok z) x e h k = absurd (cc)
ok_or_err (Err f) x e h k = absurd (cc)
