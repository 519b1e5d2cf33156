-- What the lookups of a table find: a member, as the number of the class that declares it and its flags.
--     IsFound W f m      the table's f is the world's m
--     IsAnswer W found o      the lookup finds what the world's lookup o finds, or nothing as it does
--     IsChoice W found ms      the lookup finds one of these, or nothing where there is none
--     member_of W f      a member of the table's owner and flags
use Rattle.std.specs.Prelude.{◌<◌, ◌≡◌, Bool, List, [], Option, None, Some, is_some}
use Rattle.std.specs.List.{list_any, Contains}
use Rattle.jc_facts.specs.declared.class_facts.ClassFacts.{ClassFacts}
use Rattle.jc_facts.specs.declared.key.Key.{Key}
use Rattle.jc_facts.specs.world.World.{World, size, own_field_of, own_method_of, DeclaredMember}
use Rattle.jc_index.specs.Ids.{name_at}
use Rattle.jc_index.specs.declared.ids.Found.{Found}

-- the class of the number is the owner, and the flags are the member's
pub record IsFound (W : World) (f : Found) (m : DeclaredMember) : Type 0 where
  pub below : f.owner < size W
  pub owner : name_at W f.owner ≡ m.owner
  pub flags : f.flags ≡ m.member.flags

-- a member of this owner and these flags, which are all that its use asks for
abbrev pub member_of : World → Found → DeclaredMember
member_of W f = record { owner = name_at W f.owner; member = record { name = []; descriptor = []; flags = f.flags } }

-- the table's lookup finds what the world's finds
abbrev pub IsAnswer : World → Option Found → Option DeclaredMember → Type 0
IsAnswer W None None = Unit {0}
IsAnswer W None (Some m) = ⊥
IsAnswer W (Some f) None = ⊥
IsAnswer W (Some f) (Some m) = IsFound W f m

-- the table's lookup finds one of those that the world's may find, and nothing where it finds none
abbrev pub IsChoice : World → Option Found → List DeclaredMember → Type 0
IsChoice W None ms = ms ≡ []
IsChoice W (Some f) ms = (m : DeclaredMember) × Contains ms m × IsFound W f m

-- ---- which keys are declared

-- one of the classes declares a field of the key (JVMS 4.5)
abbrev pub declare_field : List ClassFacts → Key → Bool
declare_field cs k = list_any (λ c. is_some (own_field_of c k)) cs

-- one of the classes declares a method of the key (JVMS 4.6)
abbrev pub declare_method : List ClassFacts → Key → Bool
declare_method cs k = list_any (λ c. is_some (own_method_of c k)) cs
