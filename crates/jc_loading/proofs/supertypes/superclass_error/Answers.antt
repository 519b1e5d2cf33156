use Rattle.std.proofs.Common.{◌∙◌, refl}
use Rattle.jc_loading.proofs.supertypes.superclass_error.Goals as goal

pub returns : goal.returns
returns c = c.supertype_error.ensures ∙ rw (c.is_accessible.ensures, c.is_no_superclass.ensures) refl
