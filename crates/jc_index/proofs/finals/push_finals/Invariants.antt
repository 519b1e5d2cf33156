use Rattle.std.proofs.Common.{◌≡◌, ◌++◌, drop, map}
use Rattle.std.specs.List.{filter}
use Rattle.jc_facts.specs.Names.{key_of}
use Rattle.jc_index.specs.steps.Walking.{is_final_instance}
use Rattle.jc_index.proofs.finals.push_finals.Given as goal

abbrev pub invariant-loop-member : goal.invariant-loop-member
invariant-loop-member l = l.keys.items ++ map key_of (filter is_final_instance (drop l.member-index l.class.methods)) ≡ l.initial.keys.items ++ map key_of (filter is_final_instance l.class.methods)
