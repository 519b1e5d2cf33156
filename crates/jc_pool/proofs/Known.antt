-- What is known of the texts of a pool.
use Rattle.std.proofs.Common.{◌≡◌, ◌<◌, ℕ, Bool, true, false, nat_eq, List, length, get_or, set, Option, Some, None, refl, sym, ◌∙◌, ap}
use Rattle.std.proofs.lemmas.Bool.{eqb-true, eqb-false}
use Rattle.std.proofs.lemmas.List.{get_or-set_other}
use Rattle.std.proofs.lemmas.Option.{same_Some}
use Rattle.std.proofs.lemmas.Grind.{get_or-set_at}
use Rattle.jc_desc.specs.Pool.{Slot, slot_of_index}
use Rattle.jc_pool.specs.steps.Forms.{AreOf}

-- of one text more
pub one_known : {F : Type 0} (form_in : List ℕ → F) (slots : List Slot) (known : List (Option F)) (i : ℕ) (put : F) → i < length known → put ≡ form_in (slot_of_index slots i).body → AreOf form_in slots known → AreOf form_in slots (set known i (Some put))
one_known {F} form_in slots known i put l p h = λ j form e. go j form e (nat_eq j i) refl where
  go : (j : ℕ) (form : F) → get_or (set known i (Some put)) j None ≡ Some form → (b : Bool) → nat_eq j i ≡ b → form ≡ form_in (slot_of_index slots j).body
  go j form e true q =
      let same : j ≡ i = eqb-true j i q in
      same_Some form put (sym e ∙ get_or-set_at known i j (Some put) None same l) ∙ p ∙ ap (λ (k : ℕ). form_in (slot_of_index slots k).body) (sym same)
  go j form e false q = h j form (sym (get_or-set_other known i j (Some put) None (eqb-false j i q)) ∙ e)
