-- Where a lookup has a free choice, each choice gives the same outcome.
use Rattle.std.proofs.Common.{◌≡◌, Bool, true, false, refl, Option, Some, None, not, ◌||◌, ◌&&◌}
use Rattle.jc_facts.specs.declared.act.Act.{Act}
use Rattle.jc_facts.specs.declared.client.Place.{Place}
use Rattle.jc_facts.specs.Names.{Bytes, in_same_package}
use Rattle.jc_facts.specs.Flags.{public_flag, protected_flag}
use Rattle.jc_facts.specs.world.World.{World, DeclaredMember}
use Rattle.jc_facts.specs.world.Access.{is_member_accessible}
use Rattle.jc_facts.specs.world.Assignment.{passes_protected_check, is_assignable}
use Rattle.jc_facts.specs.world.Hierarchy.{in_chain}
use Rattle.jc_facts.specs.client.Acts.{is_put_act}
use Rattle.jc_facts.specs.client.Outcome.{use_fault, assignment_ok, receiver_ok}
use Rattle.jc_worlds.proofs.Inherited.{IsPublicInstance}

pub is_member_accessible-public : (W : World) (x n : Bytes) (m : DeclaredMember) → public_flag m.member.flags ≡ true → is_member_accessible W x n m ≡ true
unfolding is_member_accessible
is_member_accessible-public W x n m p = rw p refl

pub passes_protected_check-public : (W : World) (x n : Bytes) (m : DeclaredMember) (s : Bytes) → protected_flag m.member.flags ≡ false → passes_protected_check W x n m s ≡ true
unfolding passes_protected_check
passes_protected_check-public W x n m s p = rw p (go (in_chain W x n))
  where
    go : (b : Bool) → (not (b && false && not (in_same_package m.owner x)) || is_assignable W s x) ≡ true
    go true = refl
    go false = refl

receiver_ok-same : (W : World) (x : Bytes) (a : Act) (c : Bytes) (m n : DeclaredMember) (r : Option Bytes) → protected_flag m.member.flags ≡ false → protected_flag n.member.flags ≡ false → receiver_ok W x a c m r ≡ receiver_ok W x a c n r
unfolding receiver_ok
receiver_ok-same W x a c m n None p q = refl
receiver_ok-same W x a c m n (Some s) p q = rw (passes_protected_check-public W x c m s p, passes_protected_check-public W x c n s q) refl

-- two public instance methods
pub use_fault-same : (W : World) (x : Bytes) (a : Act) (c : Bytes) (r : Option Bytes) (place : Place) (m n : DeclaredMember) → is_put_act a ≡ false → IsPublicInstance m → IsPublicInstance n
    → use_fault W x a c r place m ≡ use_fault W x a c r place n
unfolding use_fault assignment_ok
use_fault-same W x a c r place m n put p q =
    rw (is_member_accessible-public W x c m p.0, is_member_accessible-public W x c n q.0, p.1, q.1, put, receiver_ok-same W x a c m n r p.2 q.2) refl
