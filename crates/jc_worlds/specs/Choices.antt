-- What a lookup of methods may choose from, in a world of valid records.
use Rattle.std.specs.Prelude.{true, false, ◌≡◌, None, Some, Option, All, cond}
use Rattle.jc_facts.specs.declared.key.Key.{Key}
use Rattle.jc_facts.specs.declared.act.Act.{Act}
use Rattle.jc_facts.specs.declared.client.Place.{Place}
use Rattle.jc_facts.specs.declared.link_error.LinkError.{LinkError}
use Rattle.jc_facts.specs.declared.link_error.LinkError.TheVariants.{NoSuchMethodError}
use Rattle.jc_facts.specs.Names.{Bytes, same}
use Rattle.jc_desc.specs.Names.{is_clinit_name}
use Rattle.jc_facts.specs.Flags.{public_flag, protected_flag, static_flag}
use Rattle.jc_facts.specs.world.World.{World, DeclaredMember, classes}
use Rattle.jc_facts.specs.world.Loading.{load_fault}
use Rattle.jc_facts.specs.world.Lookup.{superinterface_choices, method_choices, interface_choices}
use Rattle.jc_facts.specs.world.Assignment.{is_interface_of}
use Rattle.jc_facts.specs.client.Acts.{MethodForm, InterfaceForm, is_put_act}
use Rattle.jc_facts.specs.client.Outcome.{use_fault, look_up, init_fault, init_key}
use Rattle.jc_facts.specs.file.Valid.{IsValidClass}

-- a public instance method, and not protected
abbrev pub IsPublicInstance : DeclaredMember → Type 0
IsPublicInstance m = (public_flag m.member.flags ≡ true) × (static_flag m.member.flags ≡ false) × (protected_flag m.member.flags ≡ false)

-- what superinterfaces may give for a key that is no class initializer's are public instance methods
abbrev pub InheritedArePublic : Type 0
InheritedArePublic = (W : World) → All IsValidClass (classes W) → (x : Bytes) (k : Key) → load_fault W x ≡ None → is_clinit_name k.name ≡ false
    → All IsPublicInstance (superinterface_choices W x k)

-- each method that a reference to the class, or to the interface, may find gives the act the same outcome
abbrev pub EachChoiceGivesTheSame : Type 0
EachChoiceGivesTheSame = (W : World) → All IsValidClass (classes W) → (c : Bytes) (k : Key) → load_fault W c ≡ None → is_clinit_name k.name ≡ false
    → (x : Bytes) (act : Act) (r : Option Bytes) (place : Place) → is_put_act act ≡ false
    → (is_interface_of W c ≡ false → All (λ m. use_fault W x act c r place m ≡ look_up W MethodForm c k (use_fault W x act c r place)) (method_choices W c k))
    × (is_interface_of W c ≡ true → All (λ m. use_fault W x act c r place m ≡ look_up W InterfaceForm c k (use_fault W x act c r place)) (interface_choices W c k))

-- what the making of an object says of a method found: that the class itself declares it, and then what `f` says
abbrev pub declared_here : Bytes → (DeclaredMember → Option LinkError) → DeclaredMember → Option LinkError
declared_here c f m = cond (same m.owner c) (f m) (Some NoSuchMethodError)

-- each method that the lookup of an instance initializer may find gives it the same outcome
abbrev pub EachInitGivesTheSame : Type 0
EachInitGivesTheSame = (W : World) (c d : Bytes) → load_fault W c ≡ None → is_interface_of W c ≡ false → (f : DeclaredMember → Option LinkError)
    → All (λ m. declared_here c f m ≡ init_fault W c d f) (method_choices W c (init_key d))
