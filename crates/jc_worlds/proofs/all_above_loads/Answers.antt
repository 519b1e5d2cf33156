use Rattle.std.proofs.Common.{◌≡◌, None, true, sym, subst}
use Rattle.std.proofs.lemmas.List.Elements.{All-from_recursion}
use Rattle.jc_facts.specs.Flags.{interface_flag}
use Rattle.jc_facts.specs.world.Hierarchy.{chain, superinterfaces}
use Rattle.jc_facts.specs.world.Loading.{load_fault}
use Rattle.jc_facts.proofs.World.{find-name}
use Rattle.jc_worlds.proofs.Above.{chain-each, superinterfaces-each}
use Rattle.jc_worlds.proofs.all_above_loads.Goals as goal

pub returns : goal.returns
returns c = λ W x h. (
  All-from_recursion (λ d. load_fault W d.name ≡ None) (chain W x)
      (chain-each W (λ d. load_fault W d.name ≡ None) (λ y d e l. subst (λ z. load_fault W z ≡ None) (sym (find-name W y d e)) l) x h),
  All-from_recursion (λ d. (interface_flag d.flags ≡ true) × (load_fault W d.name ≡ None)) (superinterfaces W x)
      (superinterfaces-each W (λ d. (interface_flag d.flags ≡ true) × (load_fault W d.name ≡ None)) (λ y d e l i. (i, subst (λ z. load_fault W z ≡ None) (sym (find-name W y d e)) l)) x h),
)
