-- Putting a text piece by piece.
use Rattle.std.proofs.Common.{◌≡◌, ◌≤◌, ◌+◌, ℕ, List, [], ◌++◌, Option, Some, None, length, take, refl, sym, ap, subst, ◌∙◌, append_assoc, arith, length-append}
use Rattle.std.proofs.Math.Seq.{take-append-add}
use Rattle.std.proofs.lemmas.List.{take-append-le, append-nil}
use Rattle.jc_base.specs.Outside.{TakesAll, TakesFront}
use Rattle.jc_base.specs.States.{SinkState}

-- a prefix of the text was put, and this is left
pub record IsPut (before now : Option (List ℕ)) (left total : List ℕ) : Type 0 where
  pub put : List ℕ
  pub told : TakesAll before now put
  pub whole : put ++ left ≡ total

-- the same of a sink, whose count of faults didn't fall
pub record Putting (left total : List ℕ) (before now : SinkState) : Type 0 where
  pub put : IsPut before.taken now.taken left total
  pub never_falls : before.faults ≤ now.faults

told_nothing : (a : Option (List ℕ)) → TakesAll a a []
told_nothing None = refl
told_nothing (Some old) = ap (λ (t : List ℕ). Some t) (sym (append-nil old))

pub put_nothing : (a : Option (List ℕ)) (total : List ℕ) → IsPut a a total total
put_nothing a total = record { put = []; told = told_nothing a; whole = refl }

told_then : (a b c : Option (List ℕ)) (x y : List ℕ) → TakesAll a b x → TakesAll b c y → TakesAll a c (x ++ y)
told_then None b c x y h k = subst (λ (o : Option (List ℕ)). TakesAll o c y) h k
told_then (Some old) b c x y h k = subst (λ (o : Option (List ℕ)). TakesAll o c y) h k ∙ ap (λ (t : List ℕ). Some t) (append_assoc old x y)

pub put_more : (a b c : Option (List ℕ)) (x left total : List ℕ) → IsPut a b (x ++ left) total → TakesAll b c x → IsPut a c left total
put_more a b c x left total h k = record { put = h.put ++ x; told = told_then a b c h.put x h.told k; whole = append_assoc h.put x left ∙ h.whole }

front_of_all : (x y z : List ℕ) (k : ℕ) → k ≤ length y → x ++ take k y ≡ take (length x + k) (x ++ (y ++ z))
front_of_all x y z k le = sym (take-append-add x (y ++ z) k ∙ ap (λ (t : List ℕ). x ++ t) (take-append-le k y z le))

failed : (old : List ℕ) (c : Option (List ℕ)) (x y z total : List ℕ) → TakesFront (Some (old ++ x)) c y → x ++ (y ++ z) ≡ total → TakesFront (Some old) c total
failed old c x y z total (k, le, is) e =
    (length x + k, rw (← e) (omega (arith, length-append x (y ++ z), length-append y z)), is ∙ ap (λ (t : List ℕ). Some t) (append_assoc old x (take k y) ∙ ap (λ (t : List ℕ). old ++ t) (front_of_all x y z k le ∙ ap (λ (t : List ℕ). take (length x + k) t) e)))

failed_told : (a b c : Option (List ℕ)) (x y z total : List ℕ) → TakesAll a b x → TakesFront b c y → x ++ (y ++ z) ≡ total → TakesFront a c total
failed_told None b c x y z total h k e = subst (λ (o : Option (List ℕ)). TakesFront o c y) h k
failed_told (Some old) b c x y z total h k e = failed old c x y z total (subst (λ (o : Option (List ℕ)). TakesFront o c y) h k) e

pub put_failed : (a b c : Option (List ℕ)) (x left total : List ℕ) → IsPut a b (x ++ left) total → TakesFront b c x → TakesFront a c total
put_failed a b c x left total h k = failed_told a b c h.put x left total h.told k h.whole

-- the last piece
pub put_all : (a b c : Option (List ℕ)) (x total : List ℕ) → IsPut a b x total → TakesAll b c x → TakesAll a c total
put_all a b c x total h k = subst (TakesAll a c) h.whole (told_then a b c h.put x h.told k)

pub put_last_failed : (a b c : Option (List ℕ)) (x total : List ℕ) → IsPut a b x total → TakesFront b c x → TakesFront a c total
put_last_failed a b c x total h k = failed_told a b c h.put x [] total h.told k (ap (λ (t : List ℕ). h.put ++ t) (append-nil x) ∙ h.whole)
