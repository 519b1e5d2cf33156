-- What the collision of methods that may not be overridden any more makes.
use Rattle.std.proofs.Common.{◌≡◌, Bool, true, false, not, ◌&&◌, refl, sym, ◌∙◌, ap, Option, Some, None}
use Rattle.jc_facts.specs.declared.act.Act.TheVariants.{Override}
use Rattle.jc_facts.specs.declared.verdict.Collision.{Collision}
use Rattle.jc_facts.specs.declared.key.Key.{Key}
use Rattle.jc_facts.specs.declared.link_error.LinkError.TheVariants.{IncompatibleClassChangeError}
use Rattle.jc_facts.specs.Names.{Bytes}
use Rattle.jc_facts.specs.Options.{and_then, some_where}
use Rattle.jc_promises.specs.rule.Bases.{is_base_class, is_key_of_method}
use Rattle.jc_facts.specs.world.Inheritance.{is_final_in_chain}
use Rattle.jc_promises.specs.rule.Collisions.{collision_at, final_added, made_collision}
use Rattle.jc_promises.specs.rule.Findings.{finds_overridable}
use Rattle.jc_facts.specs.Orders.{collision_order}
use Rattle.jc_lemmas.proofs.Bools.{second_of_five, third_of_five}
use Rattle.jc_declared.specs.steps.Methods.{becomes_final, final_now}
use Rattle.jc_worlds.specs.Agreement.{LooksTheSame}
use Rattle.jc_declared.proofs.NewlyFinal.{row, not_newly}
use Rattle.jc_sides.specs.BrokenOf.{BrokenOf, broken_if, collided}
use Rattle.jc_sides.specs.Members.{is_member, OfPassing}
use Rattle.jc_sides.specs.declared.members.Members.TheVariants as members
use Rattle.jc_sides.specs.Rules.{key_collision, IsCollision, IsItemRule}
use Rattle.jc_sides.specs.SidesOf.{SidesOf}
use Rattle.jc_sides.proofs.BrokenActs.{collided_where}
use Rattle.jc_sides.proofs.ItemRules.{made_where}
use Rattle.jc_sides.proofs.NamedAbove.{class_unkept}
use Rattle.jc_acts.proofs.Untouched.{looks_alike}
use Rattle.jc_declared.proofs.ChangedClasses.{collision_of_changed}
use Rattle.jc_declared.specs.steps.Changed.{changed_class}
use Rattle.jc_sides.proofs.BaseParts.{base_class_parts}

met_is : (s : SidesOf) (x : Bytes) (k : Key) → key_collision 12 s x k ≡ some_where (final_added s.old s.new x k) (made_collision 12 x k Override IncompatibleClassChangeError)
unfolding collision_at
met_is s x k = refl

met_row : (s : SidesOf) (x : Bytes) (k : Key) → is_base_class s.old s.new x ≡ true → final_added s.old s.new x k ≡ (becomes_final s x k && not (finds_overridable s.old x k))
unfolding final_added
met_row s x k base = row (is_key_of_method k) (is_base_class s.old s.new x) (is_final_in_chain s.new x k) (not (is_final_in_chain s.old x k)) (not (finds_overridable s.old x k)) base

said : (x : Bytes) (k : Key) (b p : Bool) → collided 12 x k (and_then (λ q. broken_if (not q) Override IncompatibleClassChangeError) (some_where b p)) ≡ some_where (b && not p) (made_collision 12 x k Override IncompatibleClassChangeError)
unfolding and_then
said x k true p = collided_where 12 x k (not p) Override IncompatibleClassChangeError
said x k false p = refl

-- what is said of the key, of what is known of it
met : (s : SidesOf) (x : Bytes) (k : Key) → is_base_class s.old s.new x ≡ true → (known : Option Bool) (o : Option BrokenOf) → known ≡ final_now s x k → o ≡ and_then (λ q. broken_if (not q) Override IncompatibleClassChangeError) known
    → collided 12 x k o ≡ key_collision 12 s x k
met s x k base known o e r =
    ap (collided 12 x k) (r ∙ ap (and_then (λ q. broken_if (not q) Override IncompatibleClassChangeError)) e) ∙ said x k (becomes_final s x k) (finds_overridable s.old x k)
    ∙ ap (λ p. some_where p (made_collision 12 x k Override IncompatibleClassChangeError)) (sym (met_row s x k base)) ∙ sym (met_is s x k)

pub met_none : (s : SidesOf) (x : Bytes) (k : Key) → is_base_class s.old s.new x ≡ true → (o : Option BrokenOf) → None ≡ final_now s x k → o ≡ None → collided 12 x k o ≡ key_collision 12 s x k
unfolding and_then
met_none s x k base o e r = met s x k base None o e r

pub met_some : (s : SidesOf) (x : Bytes) (k : Key) → is_base_class s.old s.new x ≡ true → (p : Bool) (o : Option BrokenOf) → Some p ≡ final_now s x k → o ≡ broken_if (not p) Override IncompatibleClassChangeError → collided 12 x k o ≡ key_collision 12 s x k
unfolding and_then
met_some s x k base p o e r = met s x k base (Some p) o e r

met_where : (s : SidesOf) (x : Bytes) (k : Key) (c : Collision) → key_collision 12 s x k ≡ Some c → (is_key_of_method k && is_base_class s.old s.new x && is_final_in_chain s.new x k && not (is_final_in_chain s.old x k) && not (finds_overridable s.old x k)) ≡ true
unfolding final_added
met_where s x k c h = (made_where (final_added s.old s.new x k) (made_collision 12 x k Override IncompatibleClassChangeError) c (sym (met_is s x k) ∙ h)).0

-- its key is final in the new chain
pub of_finals : (s : SidesOf) (x : Bytes) → OfPassing (key_collision 12 s x) (is_member members.NewFinals s x)
of_finals s x k c m = third_of_five (is_key_of_method k) (is_base_class s.old s.new x) (is_final_in_chain s.new x k) (not (is_final_in_chain s.old x k)) (not (finds_overridable s.old x k)) (met_where s x k c m)

-- no key is where all lookups are as they were
of_none : (s : SidesOf) (x : Bytes) → LooksTheSame s.old s.new x → OfPassing (key_collision 12 s x) (λ k. false)
of_none s x same k c m = absurd (not_newly s x k same (is_key_of_method k) (is_base_class s.old s.new x) (not (finds_overridable s.old x k)) (met_where s x k c m))

met_base : (s : SidesOf) (x : Bytes) (k : Key) (c : Collision) → key_collision 12 s x k ≡ Some c → is_base_class s.old s.new x ≡ true
met_base s x k c h = second_of_five (is_key_of_method k) (is_base_class s.old s.new x) (is_final_in_chain s.new x k) (not (is_final_in_chain s.old x k)) (not (finds_overridable s.old x k)) (met_where s x k c h)

pub is_rule : IsItemRule collision_order (λ (c : Collision). c.«class») (key_collision 12) (IsCollision 12) changed_class
is_rule = collision_of_changed (λ s x. is_base_class s.old s.new x) class_unkept 12 met_base
    (λ s are x is free. of_none s x (looks_alike s are x free (base_class_parts s x is).both.loads_now))
