-- When the bodies of a client type to its items, and what constructors and members they may name for it.
use Rattle.std.proofs.Common.{◌≡◌, true, false, List, [], ◌∷◌, Some}
use Rattle.jc_desc.specs.Reading.{method_of, field_of}
use Rattle.jc_desc.specs.Types.{TypeOf, Method}
use Rattle.jc_facts.specs.declared.act.Act.{Act}
use Rattle.jc_facts.specs.declared.act.Act.TheVariants as acts
use Rattle.jc_facts.specs.declared.client.ClientClass.{ClientClass}
use Rattle.jc_facts.specs.declared.key.Key.{Key}
use Rattle.jc_facts.specs.file.Attributes.{is_array_name}
use Rattle.jc_facts.specs.Names.{Bytes, same}
use Rattle.jc_facts.specs.written.TypedItems.{typed_items, IsTyped, is_callable}
use Rattle.jc_promises.specs.plan.PlannedBodies.{Bodies, blueprint}

-- the bodies type, to the items of the client
pub record IsTypedAs (c : ClientClass) (bodies : Bodies) : Type 0 where
  pub items : typed_items (blueprint c bodies) ≡ c.items
  pub typed : IsTyped (blueprint c bodies)

-- the same of each client, in order
abbrev pub AreTypedAs : List ClientClass → List Bodies → Type 0
AreTypedAs [] [] = Unit {0}
AreTypedAs [] (b ∷ bs) = ⊥
AreTypedAs (c ∷ cs) [] = ⊥
AreTypedAs (c ∷ cs) (b ∷ bs) = IsTypedAs c b × AreTypedAs cs bs

-- a class with a constructor of this descriptor
pub record IsAbove (above descriptor : Bytes) : Type 0 where
  pub itself : same above above ≡ true
  pub no_array : is_array_name above ≡ false
  pub method : Method
  pub descriptor_is : method_of descriptor ≡ Some method

-- the descriptor of a field, of a method
abbrev pub IsField : Bytes → Type 0
IsField d = (t : TypeOf) × (field_of d ≡ Some t)

abbrev pub IsMethod : Bytes → Type 0
IsMethod d = (m : Method) × (method_of d ≡ Some m)

-- the descriptor is one that the act takes; other acts are no instructions
abbrev pub Takes : Act → Bytes → Type 0
Takes acts.GetStatic d = IsField d
Takes acts.PutStatic d = IsField d
Takes acts.GetField d = IsField d
Takes acts.PutField d = IsField d
Takes acts.InvokeVirtual d = IsMethod d
Takes acts.InvokeSpecial d = IsMethod d
Takes acts.InvokeSpecialInterface d = IsMethod d
Takes acts.InvokeStatic d = IsMethod d
Takes acts.InvokeStaticInterface d = IsMethod d
Takes acts.InvokeInterface d = IsMethod d
Takes _ d = ⊥

-- an act on this class and key can be written
pub record IsUsable (what : Act) (c : Bytes) (k : Key) : Type 0 where
  pub no_array : is_array_name c ≡ false
  pub callable : is_callable what k ≡ true
  pub takes : Takes what k.descriptor
