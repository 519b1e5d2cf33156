-- Contents that are read whole, against their form.
use Rattle.std.proofs.Common.{◌≡◌, ℕ, List, [], ◌∷◌, Option, Some, None, Result, Ok, Err, refl, sym, ap, ◌∙◌}
use Rattle.std.specs.Prelude.{slice_get}
use Rattle.jc_desc.specs.declared.fault.Fault.{Fault}
use Rattle.jc_facts.specs.Names.{Bytes}
use Rattle.jc_facts.specs.file.Attributes.{◌|>>◌, whole}
use Rattle.jc_facts.proofs.AttributeLists.{AreOne}
use Rattle.jc_attr.specs.Forms.{HasForm}
use Rattle.jc_attr.specs.steps.Front.{picked}

pub has_form : {A : Type 0} (form : Bytes → Option A) (F : Bytes → A → Type 0) → AreOne form F → (body : Bytes) (o : Option A) → o ≡ form body → HasForm (F body) o
has_form {A} form F one body None e = λ x h. (let q : Some x ≡ None = sym (one.is_read body x h) ∙ sym e in cc)
has_form {A} form F one body (Some x) e = one.stands body x (sym e)

-- what is found among items that are read whole
pub whole_fault : {A : Type 0} (r : Result (List A × Bytes) Fault) (n : ℕ) (f : Fault) → Err f ≡ picked n r → None ≡ (whole r |>> λ xs. slice_get xs n)
whole_fault {A} (Err g) n f e = refl
whole_fault {A} (Ok (xs, [])) n f e = absurd cc
whole_fault {A} (Ok (xs, b ∷ bs)) n f e = refl

pub whole_found : {A : Type 0} (r : Result (List A × Bytes) Fault) (n : ℕ) (o : Option A) (rest : Bytes) → Ok (o, rest) ≡ picked n r → rest ≡ [] → o ≡ (whole r |>> λ xs. slice_get xs n)
whole_found {A} (Err g) n o rest e z = absurd cc
whole_found {A} (Ok (xs, [])) n o rest e z = (let q : (o, rest) ≡ (slice_get xs n, []) = cc in ap (λ (x : Option A × Bytes). x.0) q)
whole_found {A} (Ok (xs, b ∷ bs)) n o rest e z = absurd (let q : (o, rest) ≡ (slice_get xs n, b ∷ bs) = cc in let r : [] ≡ b ∷ bs = sym z ∙ ap (λ (x : Option A × Bytes). x.1) q in cc)

pub whole_more : {A : Type 0} (r : Result (List A × Bytes) Fault) (n : ℕ) (o : Option A) (b : ℕ) (bs : Bytes) → Ok (o, b ∷ bs) ≡ picked n r → None ≡ (whole r |>> λ xs. slice_get xs n)
whole_more {A} (Err g) n o b bs e = refl
whole_more {A} (Ok (xs, [])) n o b bs e = absurd (let q : (o, b ∷ bs) ≡ (slice_get xs n, []) = cc in let r : b ∷ bs ≡ [] = ap (λ (x : Option A × Bytes). x.1) q in cc)
whole_more {A} (Ok (xs, c ∷ cs)) n o b bs e = refl
