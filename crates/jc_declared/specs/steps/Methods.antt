-- Of methods that interfaces inherit, and of methods that may be overridden.
use Rattle.std.specs.Prelude.{Bool, Option, not, is_some, ◌&&◌}
use Rattle.jc_facts.specs.declared.key.Key.{Key}
use Rattle.jc_facts.specs.Names.{Bytes}
use Rattle.jc_facts.specs.world.Lookup.{public_method_of_object}
use Rattle.jc_promises.specs.rule.Bases.{is_key_of_method}
use Rattle.jc_facts.specs.world.Inheritance.{inherits, is_final_in_chain}
use Rattle.jc_facts.specs.Options.{some_where}
use Rattle.jc_promises.specs.rule.Findings.{finds_overridable}
use Rattle.jc_sides.specs.SidesOf.{SidesOf}

-- the interface inherited the key, and doesn't any more
abbrev pub loses : SidesOf → Bytes → Key → Bool
loses s x k = inherits s.old x k && not (inherits s.new x k)

-- the same of a method, and java/lang/Object has no public instance method of the key
abbrev pub has_lost_method : SidesOf → Bytes → Key → Bool
has_lost_method s x k = is_key_of_method k && not (is_some (public_method_of_object s.old k)) && loses s x k

-- the key is no initializer's, and wasn't final in the chain of the class but is now
abbrev pub becomes_final : SidesOf → Bytes → Key → Bool
becomes_final s x k = is_key_of_method k && not (is_final_in_chain s.old x k) && is_final_in_chain s.new x k

-- of a key that is newly final so, whether clients could override its method
abbrev pub final_now : SidesOf → Bytes → Key → Option Bool
final_now s x k = some_where (becomes_final s x k) (finds_overridable s.old x k)
