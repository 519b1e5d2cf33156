-- What references find, and what the use of that gives a seat.
use Rattle.std.specs.Prelude.{◌<◌, ℕ, Bool, true, false, [], not, Option, None, Some, ◌≡◌, ◌&&◌, ◌||◌, Result, Ok, Err}
use Rattle.std.specs.Bool.{beq}
use Rattle.jc_facts.specs.declared.act.Act.{Act}
use Rattle.jc_facts.specs.declared.key.Key.{Key}
use Rattle.jc_facts.specs.declared.link_error.LinkError.{LinkError}
use Rattle.jc_facts.specs.declared.link_error.LinkError.TheVariants.{IllegalAccessError}
use Rattle.jc_facts.specs.Names.{Bytes}
use Rattle.jc_facts.specs.Flags.{final_flag, static_flag}
use Rattle.jc_facts.specs.Options.{or_else}
use Rattle.jc_facts.specs.world.World.{World, size, DeclaredMember}
use Rattle.jc_facts.specs.world.Loading.{fault_where}
use Rattle.jc_facts.specs.client.Acts.{Form, form_of, is_put_act}
use Rattle.jc_facts.specs.client.Outcome.{kind_fault}
use Rattle.jc_facts.specs.world.Access.{is_member_open}
use Rattle.jc_promises.specs.rule.OpenActs.{act_fault, where_open}
use Rattle.jc_index.specs.Ids.{name_at}
use Rattle.jc_index.specs.declared.ids.Found.{Found}
use Rattle.jc_sides.specs.SidesOf.{SidesOf}
use Rattle.jc_acts.specs.declared.lookup.Looked.{Looked}

-- a member of this owner and these flags
abbrev pub member_of : World → Found → DeclaredMember
member_of W f = record { owner = name_at W f.owner; member = record { name = []; descriptor = []; flags = f.flags } }

-- what the use of the member, named through the class c, gives clients with the seat a: access, kind and final, in this order
-- (JVMS 5.4.4, 6.5)
abbrev pub use_at : World → Bytes → Bytes → Act → DeclaredMember → Option LinkError
use_at W a c what m =
    or_else (fault_where (not (is_member_open W a c m)) IllegalAccessError)
    (or_else (kind_fault what m)
    (fault_where (is_put_act what && final_flag m.member.flags) IllegalAccessError))

-- the error of the lookup, or what the use of the member found gives the seat
abbrev pub looked_use : World → Bytes → Bytes → Act → Result Found LinkError → Option LinkError
looked_use W a c what (Err e) = Some e
looked_use W a c what (Ok f) = use_at W a c what (member_of W f)

-- each act by a reference of this form to the key of the class c finds this, for each seat
abbrev pub LooksUp : World → Bytes → Key → Form → Result Found LinkError → Type 0
LooksUp W c k by found = (what : Act) → form_of what ≡ by → (a : Bytes) → act_fault W a c k what ≡ looked_use W a c what found

-- the member's owner is a class of the world
abbrev pub IsInside : World → Result Found LinkError → Type 0
IsInside W (Err e) = Unit {0}
IsInside W (Ok f) = f.owner < size W

-- ---- on both sides

-- the error of the act on the class x on the new side, where it was open to the seat on the old one
abbrev pub closed_use : SidesOf → Bytes → Looked → Act → Bytes → Option LinkError
closed_use s x u what a = where_open (use_at s.old a x what (member_of s.old u.before)) (looked_use s.new a x what u.after)

-- the owners of the members are classes of their sides
pub record IsLooked (s : SidesOf) (u : Looked) : Type 0 where
  pub before : u.before.owner < size s.old
  pub after : IsInside s.new u.after

-- of later flags, a member is static as it was, and is final only where it was
abbrev pub as_usable : ℕ → ℕ → Bool
as_usable was now = beq (static_flag now) (static_flag was) && (final_flag was || not (final_flag now))

-- a member is found that is open to the seat a and as usable as one of the flags that were
abbrev pub open_below : World → Bytes → Bytes → ℕ → Result Found LinkError → Bool
open_below W a x was (Err e) = false
open_below W a x was (Ok f) = is_member_open W a x (member_of W f) && as_usable was f.flags

-- it is so for the class of this number, where there is one
abbrev pub open_to_all : World → Option ℕ → Bytes → ℕ → Result Found LinkError → Bool
open_to_all W None x was found = true
open_to_all W (Some n) x was found = open_below W (name_at W n) x was found
