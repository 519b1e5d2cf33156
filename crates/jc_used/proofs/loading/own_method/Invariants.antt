use Rattle.std.proofs.Common.{◌≡◌, drop}
use Rattle.std.specs.List.{find as first_where}
use Rattle.jc_facts.specs.Names.{is_key}
use Rattle.jc_used.proofs.loading.own_method.Given as goal

abbrev pub invariant-loop-member : goal.invariant-loop-member
invariant-loop-member l = first_where (is_key l.key) (drop l.member-index l.class.methods) ≡ first_where (is_key l.key) l.class.methods
