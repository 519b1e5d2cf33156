use Rattle.std.proofs.Common.{◌≡◌, Bool, true, List, ℕ, ◌↔◌, IsTrue, sym, ◌∙◌, arith}
use Rattle.jc_desc.specs.Names.{spells_class_name, IsClassName}
use Rattle.jc_desc.proofs.ClassNames.{class_name_is, class_name_again}
use Rattle.jc_desc.proofs.names.is_class_name.Goals as goal

tells : (r : Bool) (bytes : List ℕ) → r ≡ spells_class_name bytes → IsTrue r ↔ IsClassName bytes
tells r bytes e = (
  (λ t. let s : r ≡ true = grind (arith, t) in class_name_is bytes (sym e ∙ s)),
  (λ h. let s : r ≡ true = e ∙ class_name_again bytes h in let t : IsTrue r = grind (arith, s) in t),
)

pub returns-clause-parts : goal.returns-clause-parts
returns-clause-parts c = tells c.are_name_parts.result c.args.bytes.now c.are_name_parts.ensures
