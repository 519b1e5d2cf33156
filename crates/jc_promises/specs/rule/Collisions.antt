-- Collisions: changes that break only clients which stand in their way, over the old side O and the new side N alone.
--     collision_at O N rule x k      the collision of the rule on the class x and the key, none where it does not stand there
--     CollisionStands O N c      c is the collision of its rule, class and key
use Rattle.std.specs.Prelude.{ℕ, Bool, not, cond, Option, None, Some, is_some, is_none, ◌==◌, ◌&&◌, nat_le, ◌≡◌, ◌+◌}
use Rattle.jc_desc.specs.Reading.{slots_of_method}
use Rattle.jc_facts.specs.declared.key.Key.{Key}
use Rattle.jc_facts.specs.declared.act.Act.{Act}
use Rattle.jc_facts.specs.declared.act.Act.TheVariants.{GetField, InvokeVirtual, Override}
use Rattle.jc_facts.specs.declared.link_error.LinkError.{LinkError}
use Rattle.jc_facts.specs.declared.link_error.LinkError.TheVariants.{IllegalAccessError, IncompatibleClassChangeError}
use Rattle.jc_facts.specs.declared.verdict.Collision.{Collision}
use Rattle.jc_facts.specs.declared.rule_numbers.TheConstants.{CONSTANT_ADDED, CAPTURE_ADDED, FINAL_ADDED}
use Rattle.jc_facts.specs.Names.{Bytes}
use Rattle.jc_facts.specs.Flags.{public_flag, no_static_flag}
use Rattle.jc_facts.specs.Options.{some_and, some_where}
use Rattle.jc_facts.specs.world.World.{World}
use Rattle.jc_facts.specs.world.Hierarchy.{chain}
use Rattle.jc_facts.specs.world.Lookup.{field_found, method_choices, first_declared, are_none}
use Rattle.jc_promises.specs.rule.Bases.{is_base_class, is_base_interface, is_key_of_method}
use Rattle.jc_facts.specs.world.Inheritance.{is_final_in_chain}
use Rattle.jc_promises.specs.rule.Findings.{finds_overridable}

-- from a base interface no field of the key was found, and one is now
unfoldable pub constant_added : World → World → Bytes → Key → Bool
constant_added O N i k = is_base_interface O N i && is_none (field_found O i k) && is_some (field_found N i k)

-- a class of the chain declares the key, and the first to do so declares no public instance method
unfoldable pub captures : World → Bytes → Key → Bool
captures N a k = some_and (λ m. not (public_flag m.member.flags && no_static_flag m.member.flags)) (first_declared k (chain N a))

-- the parameters of the key and an instance take at most 255 slots (JVMS 4.3.3)
abbrev pub leaves_room : Key → Bool
leaves_room k = some_and (λ n. nat_le (n + 1) 255) (slots_of_method k.descriptor)

-- from a base class no method of the key was found, and now its chain declares it as no public instance method
unfoldable pub capture_added : World → World → Bytes → Key → Bool
capture_added O N a k = is_key_of_method k && is_base_class O N a && are_none (method_choices O a k) && captures N a k && leaves_room k

-- the key is final now in the chain of a base class and wasn't, and its old lookup finds no public or protected instance method
unfoldable pub final_added : World → World → Bytes → Key → Bool
final_added O N a k = is_key_of_method k && is_base_class O N a && is_final_in_chain N a k && not (is_final_in_chain O a k) && not (finds_overridable O a k)

-- ---- the collisions

-- what a captured call gets: the method isn't public, or is static
abbrev pub capture_error : World → Bytes → Key → LinkError
capture_error N a k = cond (some_and (λ m. public_flag m.member.flags) (first_declared k (chain N a))) IncompatibleClassChangeError IllegalAccessError

-- the collision of these parts
abbrev pub made_collision : ℕ → Bytes → Key → Act → LinkError → Collision
made_collision rule x k what e = record { rule = rule; «class» = x; key = k; act = what; error = e }

-- the collision of the rule on the class and the key
unfoldable pub collision_at : World → World → ℕ → Bytes → Key → Option Collision
collision_at O N rule x k =
    cond (rule == CONSTANT_ADDED) (some_where (constant_added O N x k) (made_collision rule x k GetField IncompatibleClassChangeError))
    (cond (rule == CAPTURE_ADDED) (some_where (capture_added O N x k) (made_collision rule x k InvokeVirtual (capture_error N x k)))
    (cond (rule == FINAL_ADDED) (some_where (final_added O N x k) (made_collision rule x k Override IncompatibleClassChangeError)) None))

-- the collision is the one of its rule, class and key
abbrev pub CollisionStands : World → World → Collision → Type 0
CollisionStands O N c = collision_at O N c.rule c.«class» c.key ≡ Some c
