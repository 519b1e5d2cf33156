-- The keys of which a rule may speak.
use Rattle.std.specs.Prelude.{◌≡◌, Bool, true, List, Option, Some, is_some}
use Rattle.jc_facts.specs.declared.key.Key.{Key}
use Rattle.jc_facts.specs.Names.{Bytes}
use Rattle.jc_desc.specs.Names.{is_init_name}
use Rattle.jc_facts.specs.file.Valid.{has_key}
use Rattle.jc_facts.specs.Options.{some_and}
use Rattle.jc_facts.specs.world.Inheritance.{is_final_in_chain}
use Rattle.jc_facts.specs.world.World.{find_class}
use Rattle.jc_facts.specs.world.Lookup.{field_found}
use Rattle.jc_method.specs.FoundKeys.{finds_method}
use Rattle.jc_sides.specs.SidesOf.{SidesOf}
use Rattle.jc_sides.specs.steps.KeySets.{has_member}
use Rattle.jc_sides.specs.declared.members.Members.{Members}
use Rattle.jc_sides.specs.declared.members.Members.TheVariants as members

-- the key is that of one of these members of the class x
abbrev pub is_member : Members → SidesOf → Bytes → Key → Bool
is_member members.OldInitializers s x k = some_and (λ c. has_member (λ m. is_init_name m.name) c.methods k) (find_class s.old x)
is_member members.OldFields s x k = is_some (field_found s.old x k)
is_member members.OldMethods s x k = finds_method s.old x k
is_member members.NewFields s x k = is_some (field_found s.new x k)
is_member members.NewMethods s x k = finds_method s.new x k
is_member members.NewFinals s x k = is_final_in_chain s.new x k

-- each key that passes is among these
abbrev pub HasAll : (Key → Bool) → List Key → Type 0
HasAll passes keys = (k : Key) → passes k ≡ true → has_key k keys ≡ true

-- something is made of keys alone that pass
abbrev pub OfPassing : {F : Type 0} → (Key → Option F) → (Key → Bool) → Type 0
OfPassing {F} makes passes = (k : Key) (f : F) → makes k ≡ Some f → passes k ≡ true
