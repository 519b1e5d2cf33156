-- How a client world meets a collision. Only a client that loads in the old world meets one, and nothing here is about the new side:
-- that the key is new there is said where the collision stands (Collisions).
--     MeetsConstant W cs i k, MeetsCapture W cs a k, MeetsFinal W cs a k      some client of cs does, in the old world W
use Rattle.std.specs.Prelude.{Bool, List, ◌++◌, Option, None, Some, ◌&&◌, IsTrue, IsFalse, ◌≡◌, ◌⊎◌}
use Rattle.std.specs.List.{list_any, Contains}
use Rattle.jc_facts.specs.declared.rule_numbers.TheConstants.{CONSTANT_ADDED, CAPTURE_ADDED, FINAL_ADDED}
use Rattle.jc_facts.specs.declared.class_facts.Member.{Member}
use Rattle.jc_facts.specs.declared.client.ClientClass.{ClientClass}
use Rattle.jc_facts.specs.declared.client.Item.TheVariants as item
use Rattle.jc_facts.specs.declared.key.Key.{Key}
use Rattle.jc_facts.specs.declared.verdict.Collision.{Collision}
use Rattle.jc_facts.specs.declared.act.Act.TheVariants.{PutStatic}
use Rattle.jc_facts.specs.Names.{Bytes, is_name_among}
use Rattle.jc_facts.specs.Flags.{private_flag, no_static_flag, interface_flag}
use Rattle.jc_facts.specs.world.World.{World, is_client, DeclaredMember, own_method_of}
use Rattle.jc_facts.specs.world.Hierarchy.{chain, superinterfaces, is_superinterface}
use Rattle.jc_facts.specs.world.Loading.{load_fault}
use Rattle.jc_facts.specs.world.Lookup.{field_found, MethodFound}
use Rattle.jc_facts.specs.world.Assignment.{is_interface_of}
use Rattle.jc_facts.specs.client.Seats.{seat}

-- the client y, a client of its chain or a client among its superinterfaces names i as an interface
abbrev pub may_name : World → Bytes → Bytes → Bool
may_name W y i = list_any (λ c. is_client W c.name && is_name_among c.interfaces i) (chain W y ++ superinterfaces W y)

-- the field is of a class, or of a client interface that puts it through y
abbrev pub ConstantHits : World → List ClientClass → Bytes → Key → DeclaredMember → Type 0
ConstantHits W cs y k m = IsFalse (is_interface_of W m.owner)
    ⊎ ((c : ClientClass) × Contains cs c × (c.facts.name ≡ m.owner)
    × ((r : Option Bytes) × (place : _) × Contains c.items (item.Access PutStatic y k r place)))

-- the interface i and the key of a field: a client y loads, and it or a client above it names i as an interface; the lookup of the key
-- from y finds a field of a class, or one of a client interface that puts it through y
abbrev pub MeetsConstant : World → List ClientClass → Bytes → Key → Type 0
MeetsConstant W cs i k = (y : ClientClass) × Contains cs y × (load_fault W y.facts.name ≡ None) × IsTrue (may_name W y.facts.name i)
    × ((m : DeclaredMember) × (field_found W y.facts.name k ≡ Some m) × ConstantHits W cs y.facts.name k m)

-- the seat a and the key of a method: from a client class of this seat that loads, the lookup of the key finds a method of one of its
-- superinterfaces
abbrev pub MeetsCapture : World → List ClientClass → Bytes → Key → Type 0
MeetsCapture W cs a k = (y : ClientClass) × Contains cs y × (load_fault W y.facts.name ≡ None) × IsFalse (interface_flag y.facts.flags) × (seat W y.facts.name ≡ Some a)
    × ((m : DeclaredMember) × MethodFound W y.facts.name k m × IsTrue (is_superinterface W y.facts.name m.owner))

-- the seat a and the key of a method: a client class of this seat that loads declares the key as an instance method that isn't private
abbrev pub MeetsFinal : World → List ClientClass → Bytes → Key → Type 0
MeetsFinal W cs a k = (y : ClientClass) × Contains cs y × (load_fault W y.facts.name ≡ None) × IsFalse (interface_flag y.facts.flags) × (seat W y.facts.name ≡ Some a)
    × ((m : Member) × (own_method_of y.facts k ≡ Some m) × IsTrue (no_static_flag m.flags) × IsFalse (private_flag m.flags))

-- the client world meets the collision
abbrev pub Meets : World → List ClientClass → Collision → Type 0
Meets W cs c = ((c.rule ≡ CONSTANT_ADDED) × MeetsConstant W cs c.«class» c.key)
    ⊎ (((c.rule ≡ CAPTURE_ADDED) × MeetsCapture W cs c.«class» c.key)
    ⊎ ((c.rule ≡ FINAL_ADDED) × MeetsFinal W cs c.«class» c.key))
