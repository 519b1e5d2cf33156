-- Completeness: what the rules find, some client world shows.
use Rattle.std.specs.Prelude.{List, ◌≡◌, ◌<◌, ◌^◌, None, Some, length, All, Contains, IsTrue, IsFalse, codes, slice_get}
use Rattle.jc_facts.specs.declared.class_facts.ClassFacts.{ClassFacts}
use Rattle.jc_facts.specs.declared.client.ClientClass.{ClientClass}
use Rattle.jc_facts.specs.declared.client.Item.{Item}
use Rattle.jc_facts.specs.declared.finding.Finding.{Finding}
use Rattle.jc_facts.specs.declared.verdict.Collision.{Collision}
use Rattle.jc_facts.specs.declared.verdict.Verdict.{Verdict}
use Rattle.jc_facts.specs.declared.verdict.Cause.{Cause}
use Rattle.jc_facts.specs.declared.verdict.Cause.TheVariants as cause
use Rattle.jc_facts.specs.declared.verdict.Spot.{Spot}
use Rattle.jc_facts.specs.declared.verdict.Spot.TheVariants as spot
use Rattle.jc_facts.specs.declared.link_error.LinkError.{LinkError}
use Rattle.jc_facts.specs.Flags.{public_flag, final_flag}
use Rattle.jc_facts.specs.Options.{some_and}
use Rattle.jc_facts.specs.world.World.{World, with_clients, own_method_of}
use Rattle.jc_promises.specs.Pairs.{IsPair}
use Rattle.jc_facts.specs.world.Loading.{load_fault}
use Rattle.jc_facts.specs.client.Outcome.{outcome, Links, init_key}
use Rattle.jc_promises.specs.client.Scope.{IsInScope}
use Rattle.jc_facts.specs.client.Valid.{facts_of}
use Rattle.jc_promises.specs.client.Reach.{is_in_reach}
use Rattle.jc_promises.specs.client.Keeps.{Keeps}
use Rattle.jc_promises.specs.client.Meets.{Meets}
use Rattle.jc_promises.specs.rule.Bases.{allowed}
use Rattle.jc_promises.specs.rule.Findings.{Stands}
use Rattle.jc_promises.specs.rule.Collisions.{CollisionStands}
use Rattle.jc_facts.specs.world.Mentioned.{mentioned}
use Rattle.jc_promises.specs.plan.PlannedNames.{fresh_package}
use Rattle.jc_promises.specs.plan.Planned.{Plan, plan, planned, planned_for}
use Rattle.jc_facts.specs.Exactly.{NamesRise}
use Rattle.jc_promises.specs.rule.Verdict.{IsVerdict}
use Rattle.jc_facts.specs.Verdicts.{is_incompatible}

-- ---- of what releases it is said

-- clients may extend the class: it isn't final, permits everybody, and has a public initializer without parameters
pub record IsOpenRoot (root : ClassFacts) : Type 0 where
  pub not_final : IsFalse (final_flag root.flags)
  pub permits : root.permits ≡ None
  pub init : IsTrue (some_and (λ m. public_flag m.flags) (own_method_of root (init_key (codes "()V"))))

-- two sides of one run, of valid classes, a root that clients may extend, and a number of names of at most 64 digits, so that the package's name is short
pub record CanPlan (O N : World) : Type 0 where
  pub pair : IsPair O N
  pub open_root : IsOpenRoot pair.root.root
  pub few : length (mentioned O N) < 10 ^ 64

-- ---- what a plan shows

-- the client c of these loads, and all its items are in reach and Ok
abbrev pub LinksWhole : World → List ClientClass → ClientClass → Type 0
LinksWhole W cs c = (load_fault W c.facts.name ≡ None) × All (λ i. IsTrue (is_in_reach W c.facts.name cs i) × Links W c.facts.name i) c.items

-- the load of the client has this error, or the client loads and its item of the number has it
abbrev pub FailsBy : World → ClientClass → Spot → LinkError → Type 0
FailsBy W c spot.Load e = load_fault W c.facts.name ≡ Some e
FailsBy W c (spot.Item n) e = (load_fault W c.facts.name ≡ None) × ((i : Item) × (slice_get c.items n ≡ Some i) × (outcome W c.facts.name i ≡ Some e))

-- the plan's clients are in scope, by allowed names, link whole with the old side, and their spot has this error with the new one
pub record Shows (O N : World) (p : Plan) (e : LinkError) : Type 0 where
  pub in_scope : IsInScope O N p.clients
  pub allowed_names : All (λ c. IsTrue (allowed O N c.facts.name)) p.clients
  pub links : All (LinksWhole (with_clients O (facts_of p.clients)) p.clients) p.clients
  pub spot : ClientClass
  pub is_in : Contains p.clients spot
  pub name : spot.facts.name ≡ p.name
  pub fails : FailsBy (with_clients N (facts_of p.clients)) spot p.spot e

-- the clients meet no collision that stands
abbrev pub MeetsNothing : World → World → List ClientClass → Type 0
MeetsNothing O N cs = (c : Collision) → CollisionStands O N c → ¬ (Meets (with_clients O (facts_of cs)) cs c)

-- ---- the laws

-- each finding of this kind is shown by its plan, which meets no collision
abbrev pub FindingsShown : (Finding → Type 0) → Type 0
FindingsShown Kind = (O N : World) → CanPlan O N → (f : Finding) → Kind f → Stands O N f → let p = plan O N (fresh_package O N) (cause.Finding f) in
    Shows O N p f.error × MeetsNothing O N p.clients

-- each collision of this kind is shown by its plan, which meets it
abbrev pub CollisionsShown : (Collision → Type 0) → Type 0
CollisionsShown Kind = (O N : World) → CanPlan O N → (c : Collision) → Kind c → CollisionStands O N c → let p = plan O N (fresh_package O N) (cause.Collision c) in
    Shows O N p c.error × Meets (with_clients O (facts_of p.clients)) p.clients c

-- ---- whole

-- the planned clients stand in order and show the error
abbrev pub PlannedShow : World → World → Cause → LinkError → Type 0
PlannedShow O N e error = NamesRise (λ (c : ClientClass). c.facts.name) (planned O N e) × Shows O N (planned_for O N e) error

-- the planned clients meet the collision
abbrev pub PlannedMeet : World → World → Cause → Collision → Type 0
PlannedMeet O N e c = Meets (with_clients O (facts_of (planned O N e))) (planned O N e) c

-- For each finding and each collision of the verdict the planned clients are in scope and link whole with the old release, and one spot of
-- them has the named error with the new. Those of a finding meet no collision of the verdict, and those of a collision meet it.
abbrev pub Completeness : Type 0
Completeness = (O N : World) (v : Verdict) → CanPlan O N → IsVerdict O N v
    → All (λ f. PlannedShow O N (cause.Finding f) f.error × All (λ c. ¬ (PlannedMeet O N (cause.Finding f) c)) v.collisions) v.findings
    × All (λ c. PlannedShow O N (cause.Collision c) c.error × PlannedMeet O N (cause.Collision c) c) v.collisions

-- a client world in scope that meets no collision of the verdict and isn't kept
pub record IsBroken (O N : World) (v : Verdict) (cs : List ClientClass) : Type 0 where
  pub in_scope : IsInScope O N cs
  pub meets_none : All (λ c. ¬ (Meets (with_clients O (facts_of cs)) cs c)) v.collisions
  pub not_kept : ¬ (Keeps O N cs)

-- The verdict is `incompatible` exactly where there is such a world: soundness and completeness in one.
abbrev pub VerdictIsExact : Type 0
VerdictIsExact = (O N : World) (v : Verdict) → CanPlan O N → IsVerdict O N v
    → (IsTrue (is_incompatible v) → (cs : List ClientClass) × IsBroken O N v cs)
    × ((cs : List ClientClass) → IsBroken O N v cs → IsTrue (is_incompatible v))
