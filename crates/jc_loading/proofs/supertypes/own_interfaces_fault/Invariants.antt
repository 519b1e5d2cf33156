use Rattle.std.proofs.Common.{◌≡◌, drop}
use Rattle.jc_facts.specs.Options.{first_some}
use Rattle.jc_facts.specs.world.Loading.{fault_of_interface}
use Rattle.jc_loading.proofs.supertypes.own_interfaces_fault.Given as goal

abbrev pub invariant-loop-above : goal.invariant-loop-above
invariant-loop-above l = first_some (fault_of_interface l.index l.class) l.class.interfaces ≡ first_some (fault_of_interface l.index l.class) (drop l.above-index l.class.interfaces)
