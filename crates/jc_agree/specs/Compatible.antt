-- Where a verdict has no finding, and what `link` then says of clients.
--     SameRelease, EmptyRelease      releases between which nothing stands
--     CompatibleStaysOk      what is Ok with the old release, as `link` says it, is Ok with the new
-- Both are asked with `--modular` or both without: a pair of sides is of one kind.
use Rattle.std.specs.Prelude.{◌≡◌, List, [], true, IsTrue}
use Rattle.std.specs.List.{All}
use Rattle.jc_facts.specs.declared.client.ClientClass.{ClientClass}
use Rattle.jc_facts.specs.declared.verdict.Verdict.{Verdict}
use Rattle.jc_promises.specs.client.Scope.{IsInScope}
use Rattle.jc_facts.specs.client.Valid.{facts_of}
use Rattle.jc_promises.specs.client.Reach.{is_in_reach}
use Rattle.jc_facts.specs.client.Linked.{outcomes, are_all_ok}
use Rattle.jc_promises.specs.client.Meets.{Meets}
use Rattle.jc_promises.specs.rule.Verdict.{IsVerdict}
use Rattle.jc_promises.specs.Pairs.{IsPair}
use Rattle.jc_facts.specs.world.World.{World, with_clients}

-- ---- where there is nothing to find

-- the verdict has no finding and no collision
pub record FindsNothing (v : Verdict) : Type 0 where
  pub no_finding : v.findings ≡ []
  pub no_collision : v.collisions ≡ []

-- A release against itself.
abbrev pub SameRelease : Type 0
SameRelease = (O : World) (v : Verdict) → IsPair O O → IsVerdict O O v → FindsNothing v

-- Whatever the new release is, an old one without classes.
abbrev pub EmptyRelease : Type 0
EmptyRelease = (O N : World) (v : Verdict) → IsPair O N → O.release ≡ [] → IsVerdict O N v → FindsNothing v

-- ---- what `link` says

-- every item of the clients is in reach with the side
abbrev pub AreInReach : World → List ClientClass → Type 0
AreInReach O cs = All (λ c. All (λ i. IsTrue (is_in_reach (with_clients O (facts_of cs)) c.facts.name cs i)) c.items) cs

-- Where the verdict has no finding: of clients in scope that meet none of its collisions and whose items are in reach, if all outcomes are Ok with
-- the old release, the new one gives the same, so that they are all Ok with it too.
abbrev pub CompatibleStaysOk : Type 0
CompatibleStaysOk = (O N : World) (v : Verdict) (cs : List ClientClass) → IsPair O N → IsVerdict O N v → v.findings ≡ []
    → IsInScope O N cs → All (λ c. ¬ (Meets (with_clients O (facts_of cs)) cs c)) v.collisions → AreInReach O cs
    → are_all_ok (outcomes O cs) ≡ true → (outcomes N cs ≡ outcomes O cs) × (are_all_ok (outcomes N cs) ≡ true)
