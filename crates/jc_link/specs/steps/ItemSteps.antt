-- What the steps of an item find, by numbers of a table's classes.
use Rattle.std.specs.Prelude.{ℕ, ◌<◌, ◌≡◌, Bool, Option, None, Some, cond, not, ◌||◌, Result, Ok, Err}
use Rattle.jc_facts.specs.declared.act.Act.{Act}
use Rattle.jc_facts.specs.declared.client.Place.{Place}
use Rattle.jc_facts.specs.declared.key.Key.{Key}
use Rattle.jc_facts.specs.declared.link_error.LinkError.{LinkError}
use Rattle.jc_facts.specs.declared.link_error.LinkError.TheVariants.{IllegalAccessError, VerifyError}
use Rattle.jc_facts.specs.Names.{Bytes}
use Rattle.jc_facts.specs.Options.{or_else, some_and}
use Rattle.jc_facts.specs.world.Types.{is_array_text}
use Rattle.jc_facts.specs.Flags.{abstract_flag, interface_flag}
use Rattle.jc_facts.specs.world.World.{World, find_class, size, DeclaredMember}
use Rattle.jc_facts.specs.world.Access.{is_member_accessible}
use Rattle.jc_facts.specs.world.Loading.{load_fault, fault_where}
use Rattle.jc_facts.specs.world.Assignment.{passes_protected_check}
use Rattle.jc_facts.specs.client.Acts.{form_of}
use Rattle.jc_facts.specs.client.Outcome.{class_fault, class_step, look_up, use_fault, init_fault}
use Rattle.jc_index.specs.Ids.{name_at}
use Rattle.jc_index.specs.Lookups.{IsFound, member_of}
use Rattle.jc_index.specs.declared.ids.Found.{Found}

-- the class is the one of this number
pub record IsAt (W : World) (c : Bytes) (id : ℕ) : Type 0 where
  pub below : id < size W
  pub name : name_at W id ≡ c
  pub loads : load_fault W c ≡ None

-- the class c loads, or else this is why not
abbrev pub IsLoaded : World → Bytes → Result ℕ LinkError → Type 0
IsLoaded W c (Ok id) = IsAt W c id
IsLoaded W c (Err e) = load_fault W c ≡ Some e

-- the class c loads and is accessible from x, or else this is why not
abbrev pub IsNamed : World → Bytes → Bytes → Result ℕ LinkError → Type 0
IsNamed W x c (Ok id) = IsAt W c id × (class_fault W x c ≡ None)
IsNamed W x c (Err e) = class_fault W x c ≡ Some e

-- what the class step of the text t gives, then the error a of an array, and then the rest
abbrev pub after_class : World → Bytes → Bytes → LinkError → Option LinkError → Option LinkError
after_class W x t a rest = or_else (class_step W x t) (cond (is_array_text t) (Some a) rest)

-- the steps that follow are those on the class of this number, or else aren't reached
abbrev pub IsReached : World → Bytes → Bytes → LinkError → Result ℕ LinkError → Type 0
IsReached W x t a (Ok id) = IsAt W t id × ((rest : Option LinkError) → after_class W x t a rest ≡ rest)
IsReached W x t a (Err e) = (rest : Option LinkError) → after_class W x t a rest ≡ Some e

-- the act's lookup from the class c finds this, or else gives this error
abbrev pub LooksUp : World → Act → Bytes → Key → Result Found LinkError → Type 0
LooksUp W act c k (Ok f) = (f.owner < size W) × ((x : Bytes) (r : Option Bytes) (place : Place) → look_up W (form_of act) c k (use_fault W x act c r place) ≡ use_fault W x act c r place (member_of W f))
LooksUp W act c k (Err e) = (f : DeclaredMember → Option LinkError) → look_up W (form_of act) c k f ≡ Some e

-- ---- the making of objects

-- the lookup of the instance initializer of this descriptor finds this, or else gives this error
abbrev pub FindsInit : World → Bytes → Bytes → Result Found LinkError → Type 0
FindsInit W c d (Ok found) = (m : DeclaredMember) × IsFound W found m × ((f : DeclaredMember → Option LinkError) → init_fault W c d f ≡ f m)
FindsInit W c d (Err e) = (f : DeclaredMember → Option LinkError) → init_fault W c d f ≡ Some e

-- no object of the class can be made (JVMS 6.5, new)
abbrev pub makes_none : World → Bytes → Bool
makes_none W t = some_and (λ c. abstract_flag c.flags || interface_flag c.flags) (find_class W t)

-- what the initializer m of the class t gives a call from x
abbrev pub init_use_fault : World → Bytes → Bytes → DeclaredMember → Option LinkError
init_use_fault W x t m = fault_where (not (is_member_accessible W x t m)) IllegalAccessError

-- what it gives a `new`, where the receiver is s
abbrev pub new_use_fault : World → Bytes → Bytes → DeclaredMember → Bytes → Option LinkError
new_use_fault W x t m s = or_else (init_use_fault W x t m) (fault_where (not (passes_protected_check W x t m s)) VerifyError)
