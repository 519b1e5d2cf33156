-- What fewer rules keep, for clients that declare no method which others could inherit.
use Rattle.std.proofs.Common.{◌≡◌, true, refl, List}
use Rattle.jc_facts.specs.declared.client.ClientClass.{ClientClass}
use Rattle.jc_facts.specs.declared.key.Key.{Key}
use Rattle.jc_facts.specs.Names.{Bytes}
use Rattle.jc_facts.specs.world.World.{World, with_clients}
use Rattle.jc_promises.specs.Pairs.{IsPair}
use Rattle.jc_promises.specs.client.Scope.{IsInScope}
use Rattle.jc_facts.specs.client.Valid.{facts_of}
use Rattle.jc_promises.specs.client.Keeps.{Keeps}
use Rattle.jc_promises.specs.client.Meets.{MeetsConstant, MeetsCapture}
use Rattle.jc_promises.specs.rule.Collisions.{constant_added, capture_added}
use Rattle.jc_lemmas.proofs.Listed.{EachOf}
use Rattle.jc_sound.proofs.Standing.{Quiet}
use Rattle.jc_sound.proofs.Scope.{DeclaresNone, scope_loads}
use Rattle.jc_sound.proofs.Sound.{KeepsLoads, keeps_all}

module _ (O N : World) (cs : List ClientClass) (pair : IsPair O N) (quiet : Quiet O N) (scope : IsInScope O N cs)
    (none_declared : EachOf (λ (c : ClientClass). DeclaresNone c.facts) cs) where
  -- the loads
  pub loads_of : KeepsLoads O N cs pair quiet scope
  loads_of = scope_loads O N cs pair.run (rw pair.root.is_there refl) quiet scope none_declared

  -- the loads and the items, without a word on final methods
  pub keeps_without_methods : quiet.rules 5 ≡ true → quiet.rules 7 ≡ true → quiet.rules 8 ≡ true → quiet.rules 9 ≡ true
      → ((i : Bytes) (k : Key) → constant_added O N i k ≡ true → MeetsConstant (with_clients O (facts_of cs)) cs i k → ⊥)
      → ((a : Bytes) (k : Key) → capture_added O N a k ≡ true → MeetsCapture (with_clients O (facts_of cs)) cs a k → ⊥)
      → Keeps O N cs
  keeps_without_methods = keeps_all O N cs pair quiet scope loads_of
