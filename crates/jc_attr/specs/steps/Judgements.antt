-- Descriptors that were judged.
use Rattle.std.specs.Prelude.{◌≡◌, ℕ, Bool}
use Rattle.jc_desc.specs.Names.{is_init_name}
use Rattle.jc_facts.specs.Flags.{static_flag}
use Rattle.jc_facts.specs.Names.{Bytes}
use Rattle.jc_facts.specs.file.Rules.{member_descriptor_fits}

-- a descriptor, whether it was judged as that of a method, of an instance initializer, of a static method, and the answer
pub record JudgementOf : Type 0 where
  pub descriptor : Bytes
  pub method : Bool
  pub init : Bool
  pub of_class : Bool
  pub fits : Bool

-- the answer is that of each member of this kind
abbrev pub IsRight : JudgementOf → Type 0
IsRight j = (name : Bytes) (flags : ℕ) → is_init_name name ≡ j.init → static_flag flags ≡ j.of_class → member_descriptor_fits j.method name flags j.descriptor ≡ j.fits
