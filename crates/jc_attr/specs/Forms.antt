-- Contents against the form of an attribute.
use Rattle.std.specs.Prelude.{Option, Some, None}

-- the contents have the form, which gives this; and where nothing is given, they have it with no value
abbrev pub HasForm : {A : Type 0} → (A → Type 0) → Option A → Type 0
HasForm {A} Form None = (x : A) → ¬ Form x
HasForm {A} Form (Some x) = Form x
