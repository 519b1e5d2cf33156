use Rattle.std.proofs.Common.{◌≡◌, None}
use Rattle.std.proofs.lemmas.List.Elements.{recursion_from_All, All-from_recursion}
use Rattle.jc_facts.specs.world.Search.{supers}
use Rattle.jc_facts.specs.world.Loading.{load_fault}
use Rattle.jc_worlds.proofs.Loaded.{loads-parts, loads_from_parts}
use Rattle.jc_worlds.proofs.loads_with_supers.Goals as goal

pub returns : goal.returns
returns c = λ W x d e. (
  λ h. let p = loads-parts W x d e h in (All-from_recursion (λ s. load_fault W s ≡ None) (supers d) p.0, p.1),
  λ a o. loads_from_parts W x d e (recursion_from_All (λ s. load_fault W s ≡ None) (supers d) a) o,
)
