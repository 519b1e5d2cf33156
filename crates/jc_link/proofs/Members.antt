-- Of a member found only the owner and the flags count.
use Rattle.std.proofs.Common.{◌≡◌, ℕ, [], refl, sym, ◌∙◌, ap, Option, Some, None}
use Rattle.jc_facts.specs.declared.act.Act.{Act}
use Rattle.jc_facts.specs.declared.client.Place.{Place}
use Rattle.jc_facts.specs.Names.{Bytes}
use Rattle.jc_facts.specs.world.World.{World, DeclaredMember}
use Rattle.jc_facts.specs.world.Access.{is_member_accessible}
use Rattle.jc_facts.specs.world.Assignment.{passes_protected_check}
use Rattle.jc_facts.specs.client.Outcome.{use_fault, assignment_ok, receiver_ok}
use Rattle.jc_index.specs.Ids.{name_at}
use Rattle.jc_index.specs.Lookups.{IsFound, member_of}
use Rattle.jc_index.specs.declared.ids.Found.{Found}

member_by : Bytes → ℕ → DeclaredMember
member_by o flags = record { owner = o; member = record { name = []; descriptor = []; flags = flags } }

module _ (W : World) (f : Found) (m : DeclaredMember) (i : IsFound W f m) where
  -- a function of the owner and the flags
  by_both : {A : Type 0} (g : Bytes → ℕ → A) → g m.owner m.member.flags ≡ g (name_at W f.owner) f.flags
  by_both g = ap (λ o. g o m.member.flags) (sym i.owner) ∙ ap (g (name_at W f.owner)) (sym i.flags)

  pub open_alike : (x n : Bytes) → is_member_accessible W x n m ≡ is_member_accessible W x n (member_of W f)
  unfolding is_member_accessible member_by
  open_alike x n = by_both (λ o flags. is_member_accessible W x n (member_by o flags))

  pub let_alike : (x n s : Bytes) → passes_protected_check W x n m s ≡ passes_protected_check W x n (member_of W f) s
  unfolding passes_protected_check member_by
  let_alike x n s = by_both (λ o flags. passes_protected_check W x n (member_by o flags) s)

  receiver_alike : (x : Bytes) (act : Act) (c : Bytes) (r : Option Bytes) → receiver_ok W x act c m r ≡ receiver_ok W x act c (member_of W f) r
  unfolding receiver_ok
  receiver_alike x act c None = refl
  receiver_alike x act c (Some s) = rw (let_alike x c s) refl

  pub use_alike : (x : Bytes) (act : Act) (c : Bytes) (r : Option Bytes) (place : Place) → use_fault W x act c r place m ≡ use_fault W x act c r place (member_of W f)
  unfolding use_fault assignment_ok
  use_alike x act c r place = rw (open_alike x c, receiver_alike x act c r, sym i.flags, sym i.owner) refl
