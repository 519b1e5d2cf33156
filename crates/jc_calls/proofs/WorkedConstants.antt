-- Worked examples of constants: what pairs of small releases do to switches of clients that list all values.
use Rattle.std.proofs.Common.{◌≡◌, ℕ, true, false, List, [], ◌∷◌, refl, Some, codes}
use Rattle.jc_facts.specs.declared.class_facts.Member.{Member}
use Rattle.jc_facts.specs.Names.{Bytes, object_name}
use Rattle.jc_facts.specs.world.World.{World}
use Rattle.jc_sound.proofs.Examples.{computes, init, member, a_class, public_class, public_interface, sealed_interface, object, over}
use Rattle.jc_calls.specs.Constants.{constants_added}

-- what these compute with
unfoldable switches : ℕ
unfolding computes constants_added
switches = 0

-- ---- enums

abbrev p_Color : Bytes
p_Color = codes "p/Color"

-- a constant of the enum, and another static field
abbrev constant : Bytes → Member
constant name = member name (codes "Lp/Color;") 0x4019

abbrev field : Bytes → Member
field name = member name (codes "Lp/Color;") 0x19

abbrev red : Member
red = constant (codes "RED")

abbrev green : Member
green = constant (codes "GREEN")

abbrev blue : Member
blue = constant (codes "BLUE")

-- a release with an enum of these flags and these fields
abbrev enum_with : ℕ → List Member → World
enum_with flags fields = record (over (a_class p_Color flags (Some (codes "java/lang/Enum")) [] fields (init 2 ∷ []) ∷ [])) { platform = object ∷ a_class (codes "java/lang/Enum") 0x421 (Some object_name) [] [] (init 4 ∷ []) ∷ [] }

abbrev colors : List Member → World
colors fields = enum_with 0x4031 fields

-- one constant more
enum_switch : constants_added (colors (red ∷ green ∷ [])) (colors (red ∷ green ∷ blue ∷ [])) p_Color ≡ true
unfolding switches
enum_switch = refl

-- one of another name
renamed : constants_added (colors (red ∷ green ∷ [])) (colors (red ∷ blue ∷ [])) p_Color ≡ true
unfolding switches
renamed = refl

-- the same in another order, and one less, which a finding tells
reordered : constants_added (colors (red ∷ green ∷ [])) (colors (green ∷ red ∷ [])) p_Color ≡ false
unfolding switches
reordered = refl

one_less : constants_added (colors (red ∷ green ∷ [])) (colors (red ∷ [])) p_Color ≡ false
unfolding switches
one_less = refl

-- a static field more that is no constant, and one that became one
plain_field : (constants_added (colors (red ∷ [])) (colors (red ∷ field (codes "GREEN") ∷ [])) p_Color ≡ false) × (constants_added (colors (red ∷ field (codes "GREEN") ∷ [])) (colors (red ∷ green ∷ [])) p_Color ≡ true)
unfolding switches
plain_field = (refl, refl)

-- a class that isn't an enum, whatever its fields
no_enum : (constants_added (over (public_class p_Color (field (codes "RED") ∷ []) [] ∷ [])) (over (public_class p_Color (field (codes "RED") ∷ field (codes "GREEN") ∷ []) [] ∷ [])) p_Color ≡ false)
    × (constants_added (over (public_class p_Color (red ∷ []) [] ∷ [])) (over (public_class p_Color (red ∷ green ∷ []) [] ∷ [])) p_Color ≡ false)
unfolding switches
no_enum = (refl, refl)

-- an enum that clients can't name
hidden : constants_added (enum_with 0x4030 (red ∷ [])) (enum_with 0x4030 (red ∷ green ∷ [])) p_Color ≡ false
unfolding switches
hidden = refl

-- ---- sealed classes

abbrev p_Shape : Bytes
p_Shape = codes "p/Shape"

abbrev p_Disk : Bytes
p_Disk = codes "p/Disk"

abbrev p_Square : Bytes
p_Square = codes "p/Square"

-- a sealed interface that permits these, and one that permits all
abbrev shapes : List Bytes → World
shapes names = over (sealed_interface p_Shape names ∷ [])

abbrev unsealed : World
unsealed = over (public_interface p_Shape [] [] [] ∷ [])

-- a permitted subclass more, and no permitted names any longer
permits_one_more : constants_added (shapes (p_Disk ∷ [])) (shapes (p_Disk ∷ p_Square ∷ [])) p_Shape ≡ true
unfolding switches
permits_one_more = refl

no_longer_sealed : constants_added (shapes (p_Disk ∷ [])) unsealed p_Shape ≡ true
unfolding switches
no_longer_sealed = refl

-- an abstract class that has objects of its own now, and one that is abstract now
abbrev sealed_class : ℕ → World
sealed_class flags = over (record (a_class p_Shape flags (Some object_name) [] [] (init 1 ∷ [])) { major = 61; permits = Some (p_Disk ∷ []) } ∷ [])

no_longer_abstract : (constants_added (sealed_class 0x421) (sealed_class 0x21) p_Shape ≡ true) × (constants_added (sealed_class 0x21) (sealed_class 0x421) p_Shape ≡ false) × (constants_added (sealed_class 0x421) (sealed_class 0x421) p_Shape ≡ false)
unfolding switches
no_longer_abstract = (refl, refl, refl)

-- one less, the same in another order, and permitted names where there were none: then a switch had to have a default
permits_one_less : constants_added (shapes (p_Disk ∷ p_Square ∷ [])) (shapes (p_Disk ∷ [])) p_Shape ≡ false
unfolding switches
permits_one_less = refl

permits_the_same : constants_added (shapes (p_Disk ∷ p_Square ∷ [])) (shapes (p_Square ∷ p_Disk ∷ [])) p_Shape ≡ false
unfolding switches
permits_the_same = refl

now_sealed : constants_added unsealed (shapes (p_Disk ∷ [])) p_Shape ≡ false
unfolding switches
now_sealed = refl
