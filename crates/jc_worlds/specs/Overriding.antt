-- The walk that looks for final methods above, and the relation.
use Rattle.std.specs.Prelude.{true, false, List, [], ◌∷◌, ◌≡◌, ◌||◌, Contains}
use Rattle.jc_facts.specs.declared.class_facts.ClassFacts.{ClassFacts}
use Rattle.jc_facts.specs.declared.class_facts.Member.{Member}
use Rattle.jc_facts.specs.declared.key.Key.{Key}
use Rattle.jc_facts.specs.Names.{Bytes, key_of}
use Rattle.jc_desc.specs.Names.{is_init_name, is_clinit_name}
use Rattle.jc_facts.specs.world.World.{DeclaredMember}
use Rattle.jc_facts.specs.world.Overriding.{reaches_final, overrides_some_final, OverridesFinal}

-- the walk meets a final method exactly where the method overrides one (JVMS 5.4.5)
abbrev pub WalkIsOverriding : Type 0
WalkIsOverriding = (k : Key) (m : DeclaredMember) (above : List ClassFacts)
    → (reaches_final k (m ∷ []) above ≡ true → OverridesFinal k m above) × (OverridesFinal k m above → reaches_final k (m ∷ []) above ≡ true)

-- one of these methods of the class x, no initializer, overrides a final one of the classes above
pub record SomeOverridesFinal (x : Bytes) (ms : List Member) (above : List ClassFacts) : Type 0 where
  pub method : Member
  pub is_in : Contains ms method
  pub is_plain : (is_init_name method.name || is_clinit_name method.name) ≡ false
  pub overrides : OverridesFinal (key_of method) (record { owner = x; member = method }) above

-- loading refuses a class for its methods exactly where one of them overrides a final one
abbrev pub FinalsRefuse : Type 0
FinalsRefuse = (x : Bytes) (ms : List Member) (above : List ClassFacts)
    → (overrides_some_final x ms above ≡ true → SomeOverridesFinal x ms above) × (SomeOverridesFinal x ms above → overrides_some_final x ms above ≡ true)
