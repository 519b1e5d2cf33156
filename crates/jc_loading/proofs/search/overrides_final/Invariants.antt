use Rattle.std.proofs.Common.{◌≡◌, drop}
use Rattle.jc_facts.specs.world.Hierarchy.{chain, of_super}
use Rattle.jc_facts.specs.world.Overriding.{overrides_some_final}
use Rattle.jc_loading.proofs.search.overrides_final.Given as goal

abbrev pub invariant-loop-member : goal.invariant-loop-member
invariant-loop-member l =
    overrides_some_final l.class.name l.class.methods (of_super (chain l.index) l.class.superclass) ≡ overrides_some_final l.class.name (drop l.member-index l.class.methods) (of_super (chain l.index) l.class.superclass)
