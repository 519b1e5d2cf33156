-- What the collision of fields that interfaces have now makes.
use Rattle.std.proofs.Common.{◌≡◌, Bool, true, false, not, refl, sym, ◌∙◌, ap, Option, Some, None, is_some, is_none, ◌&&◌}
use Rattle.std.proofs.lemmas.Bool.{and_parts}
use Rattle.jc_facts.specs.declared.act.Act.TheVariants.{GetField}
use Rattle.jc_facts.specs.declared.key.Key.{Key}
use Rattle.jc_facts.specs.declared.link_error.LinkError.TheVariants.{IncompatibleClassChangeError}
use Rattle.jc_facts.specs.declared.verdict.Collision.{Collision}
use Rattle.jc_promises.specs.rule.Collisions.{made_collision, collision_at, constant_added}
use Rattle.jc_facts.specs.world.Lookup.{field_found}
use Rattle.jc_facts.specs.Names.{Bytes}
use Rattle.jc_facts.specs.Options.{some_where}
use Rattle.jc_facts.specs.Orders.{collision_order}
use Rattle.jc_promises.specs.rule.Bases.{is_base_interface}
use Rattle.jc_facts.specs.world.World.{World, DeclaredMember}
use Rattle.jc_worlds.specs.Agreement.{LooksTheSame}
use Rattle.jc_sides.specs.BrokenOf.{BrokenOf, broken_if, collided}
use Rattle.jc_sides.specs.Members.{is_member, OfPassing}
use Rattle.jc_sides.specs.declared.members.Members.TheVariants as members
use Rattle.jc_sides.specs.Rules.{key_collision, IsCollision, IsItemRule}
use Rattle.jc_sides.specs.SidesOf.{SidesOf}
use Rattle.jc_sides.proofs.BrokenActs.{collided_where}
use Rattle.jc_sides.proofs.ItemRules.{made_where}
use Rattle.jc_sides.proofs.NamedAbove.{interface_unkept}
use Rattle.jc_index.specs.Lookups.{IsAnswer}
use Rattle.jc_index.specs.declared.ids.Found.{Found}
use Rattle.jc_acts.proofs.Untouched.{looks_alike}
use Rattle.jc_declared.proofs.ChangedClasses.{collision_of_changed}
use Rattle.jc_declared.specs.steps.Changed.{changed_interface}
use Rattle.jc_sides.proofs.BaseParts.{base_interface_parts}

-- the table's lookup finds something where the world's does
answer_there : (W : World) (f : Option Found) (m : Option DeclaredMember) → IsAnswer W f m → is_some f ≡ is_some m
answer_there W None None a = refl
answer_there W None (Some m) a = absurd a
answer_there W (Some f) None a = absurd a
answer_there W (Some f) (Some m) a = refl

constant_is : (s : SidesOf) (x : Bytes) (k : Key) → key_collision 10 s x k ≡ some_where (constant_added s.old s.new x k) (made_collision 10 x k GetField IncompatibleClassChangeError)
unfolding collision_at
constant_is s x k = refl

pub constant : (s : SidesOf) (x : Bytes) (k : Key) (b : Bool) (o : Option BrokenOf) → b ≡ constant_added s.old s.new x k → o ≡ broken_if b GetField IncompatibleClassChangeError → collided 10 x k o ≡ key_collision 10 s x k
constant s x k b o e r =
    ap (collided 10 x k) r ∙ collided_where 10 x k b GetField IncompatibleClassChangeError ∙ ap (λ p. some_where p (made_collision 10 x k GetField IncompatibleClassChangeError)) e ∙ sym (constant_is s x k)

-- ---- as the code tests it

module _ (s : SidesOf) (x : Bytes) (k : Key) (now : Option Found) (after : IsAnswer s.new now (field_found s.new x k)) where
  -- where there is a field now
  pub constant_then : (old : Option Found) (r : Bool) → is_base_interface s.old s.new x ≡ true → IsAnswer s.old old (field_found s.old x k) → is_some now ≡ true → is_some old ≡ not r → r ≡ constant_added s.old s.new x k
  unfolding constant_added
  constant_then old r base before e q =
      go (is_base_interface s.old s.new x) (field_found s.old x k) (field_found s.new x k) r base (sym (answer_there s.new now (field_found s.new x k) after) ∙ e) (sym (answer_there s.old old (field_found s.old x k) before) ∙ q)
    where
      go : (b : Bool) (o n : Option DeclaredMember) (r : Bool) → b ≡ true → is_some n ≡ true → is_some o ≡ not r → r ≡ (b && is_none o && is_some n)
      go true None (Some n) true b h e = refl
      go true (Some o) (Some n) false b h e = refl
      go true None (Some n) false b h e = absurd (cc)
      go true (Some o) (Some n) true b h e = absurd (cc)
      go true o None r b h e = absurd (cc)
      go false o n r b h e = absurd (cc)

  -- where there is none
  pub constant_else : (r : Bool) → is_some now ≡ false → r ≡ is_some now → r ≡ constant_added s.old s.new x k
  unfolding constant_added
  constant_else r e q = go (is_base_interface s.old s.new x && is_none (field_found s.old x k)) (field_found s.new x k) r (sym (answer_there s.new now (field_found s.new x k) after) ∙ e) (q ∙ e)
    where
      go : (b : Bool) (n : Option DeclaredMember) (r : Bool) → is_some n ≡ false → r ≡ false → r ≡ (b && is_some n)
      go true None r h e = e
      go false None r h e = e
      go b (Some n) r h e = absurd (cc)

-- ---- where it stands

record IsConstant (s : SidesOf) (x : Bytes) (k : Key) : Type 0 where
  base : is_base_interface s.old s.new x ≡ true
  unknown : is_none (field_found s.old x k) ≡ true
  found : is_some (field_found s.new x k) ≡ true

constant_parts : (s : SidesOf) (x : Bytes) (k : Key) (c : Collision) → key_collision 10 s x k ≡ Some c → IsConstant s x k
unfolding constant_added
constant_parts s x k c h =
    let t = (made_where (constant_added s.old s.new x k) (made_collision 10 x k GetField IncompatibleClassChangeError) c (sym (constant_is s x k) ∙ h)).0 in
    let a = and_parts (is_base_interface s.old s.new x && is_none (field_found s.old x k)) (is_some (field_found s.new x k)) t in
    let b = and_parts (is_base_interface s.old s.new x) (is_none (field_found s.old x k)) a.0 in
    record { base = b.0; unknown = b.1; found = a.1 }

-- a reference to the interface finds a field of the key
pub of_fields : (s : SidesOf) (x : Bytes) → OfPassing (key_collision 10 s x) (is_member members.NewFields s x)
of_fields s x k c e = (constant_parts s x k c e).found

-- nothing is added where all lookups are as they were
of_none : (s : SidesOf) (x : Bytes) → LooksTheSame s.old s.new x → OfPassing (key_collision 10 s x) (λ k. false)
of_none s x same k c e = let p = constant_parts s x k c e in absurd (go (field_found s.new x k) (ap is_none (sym (same.field k)) ∙ p.unknown) p.found)
  where
    go : (o : Option DeclaredMember) → is_none o ≡ true → is_some o ≡ true → ⊥
    go None n h = let clash : false ≡ true = h in cc
    go (Some m) n h = let clash : false ≡ true = n in cc

pub is_rule : IsItemRule collision_order (λ (c : Collision). c.«class») (key_collision 10) (IsCollision 10) changed_interface
is_rule = collision_of_changed (λ s x. is_base_interface s.old s.new x) interface_unkept 10 (λ s x k c e. (constant_parts s x k c e).base)
    (λ s are x is free. of_none s x (looks_alike s are x free (base_interface_parts s x is).both.loads_now))
