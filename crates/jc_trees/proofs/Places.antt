-- Whether a path is a name with a tail behind it.
use Rattle.std.proofs.Common.{◌≡◌, ◌↔◌, ℕ, List, ◌++◌, length, take, drop, Bool, true, false, sym, ap, ◌∙◌, refl}
use Rattle.std.specs.Prelude.{IsTrue}
use Rattle.std.specs.Str.{bytes_eq}
use Rattle.std.proofs.lemmas.List.{take-append-drop, take_at, drop_at}
use Rattle.std.proofs.lemmas.Slice.Eq.{bytes_eq-Decides}

pub place_then : (path name tail : List ℕ) (r : Bool) → take (length name) path ≡ name → r ≡ bytes_eq (drop (length name) path) tail → IsTrue r ↔ (path ≡ name ++ tail)
place_then path name tail r front back = (
  (λ yes. sym (take-append-drop (length name) path) ∙ ap (λ (x : List ℕ). x ++ drop (length name) path) front ∙ ap (λ (x : List ℕ). name ++ x) ((bytes_eq-Decides (drop (length name) path) tail).0 (sym back ∙ yes))),
  (λ is. back ∙ (bytes_eq-Decides (drop (length name) path) tail).1 (ap (drop (length name)) is ∙ drop_at name tail (length name) refl)),
)

pub place_else : (path name tail : List ℕ) (r : Bool) → r ≡ false → (take (length name) path ≡ name → ⊥) → IsTrue r ↔ (path ≡ name ++ tail)
place_else path name tail r differs front = ((λ yes. absurd (let clash : true ≡ false = sym yes ∙ differs in cc)), (λ is. absurd (front (ap (take (length name)) is ∙ take_at name tail (length name) refl))))
