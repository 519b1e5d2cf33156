use Rattle.std.proofs.Common.{◌≡◌, Bool, true, List, ℕ, ◌↔◌, IsTrue, sym, ◌∙◌, arith}
use Rattle.jc_desc.specs.Utf8.{is_modified_utf8, IsText}
use Rattle.jc_desc.proofs.Shapes.{text_is, text_again}
use Rattle.jc_desc.proofs.utf8.is_text.Goals as goal

tells : (r : Bool) (bytes : List ℕ) → r ≡ is_modified_utf8 bytes → IsTrue r ↔ IsText bytes
tells r bytes e = (
  (λ t. let s : r ≡ true = grind (arith, t) in text_is bytes (sym e ∙ s)),
  (λ h. let s : r ≡ true = e ∙ text_again bytes h in let t : IsTrue r = grind (arith, s) in t),
)

pub returns-clause-shapes : goal.returns-clause-shapes
returns-clause-shapes c = tells c.are_shapes.result c.args.bytes.now c.are_shapes.ensures
