-- What a collision that stands says, rule by rule.
use Rattle.std.proofs.Common.{◌≡◌, ℕ, Bool, true, false, refl, subst, Some}
use Rattle.jc_facts.specs.declared.act.Act.{Act}
use Rattle.jc_facts.specs.declared.act.Act.TheVariants.{GetField, InvokeVirtual, Override}
use Rattle.jc_facts.specs.declared.verdict.Collision.{Collision}
use Rattle.jc_facts.specs.declared.key.Key.{Key}
use Rattle.jc_facts.specs.declared.link_error.LinkError.{LinkError}
use Rattle.jc_facts.specs.declared.link_error.LinkError.TheVariants.{IncompatibleClassChangeError}
use Rattle.jc_facts.specs.Names.{Bytes}
use Rattle.jc_facts.specs.Options.{some_where}
use Rattle.jc_facts.specs.world.World.{World}
use Rattle.jc_promises.specs.rule.Collisions.{made_collision, collision_at, CollisionStands, constant_added, capture_added, final_added, capture_error}
use Rattle.jc_complete.proofs.PlanRules.{chosen}

told : (b : Bool) (n : ℕ) (x : Bytes) (k : Key) (a : Act) (e : LinkError) (c : Collision) → some_where b (made_collision n x k a e) ≡ Some c → (b ≡ true) × (made_collision n x k a e ≡ c)
told true n x k a e c h = (refl, let w : made_collision n x k a e ≡ c = cc in w)
told false n x k a e c h = absurd (cc)

module _ (O N : World) (c : Collision) where
  at_rule : (n : ℕ) → c.rule ≡ n → CollisionStands O N c → collision_at O N n c.«class» c.key ≡ Some c
  at_rule n e h = subst (λ n. collision_at O N n c.«class» c.key ≡ Some c) e h

  pub by_constant : c.rule ≡ 10 → CollisionStands O N c → (constant_added O N c.«class» c.key ≡ true) × (made_collision 10 c.«class» c.key GetField IncompatibleClassChangeError ≡ c)
  unfolding collision_at
  by_constant e h = told (constant_added O N c.«class» c.key) 10 c.«class» c.key GetField IncompatibleClassChangeError c (at_rule 10 e h)

  pub by_capture : c.rule ≡ 11 → CollisionStands O N c → (capture_added O N c.«class» c.key ≡ true) × (made_collision 11 c.«class» c.key InvokeVirtual (capture_error N c.«class» c.key) ≡ c)
  unfolding collision_at
  by_capture e h = told (capture_added O N c.«class» c.key) 11 c.«class» c.key InvokeVirtual (capture_error N c.«class» c.key) c (at_rule 11 e h)

  pub by_final : c.rule ≡ 12 → CollisionStands O N c → (final_added O N c.«class» c.key ≡ true) × (made_collision 12 c.«class» c.key Override IncompatibleClassChangeError ≡ c)
  unfolding collision_at
  by_final e h = told (final_added O N c.«class» c.key) 12 c.«class» c.key Override IncompatibleClassChangeError c (at_rule 12 e h)

-- what holds of the collisions of each of the three rules holds of every collision
pub of_each_collision : (G : Collision → Type 0) (O N : World) → ((c : Collision) → c.rule ≡ 10 → CollisionStands O N c → G c) → ((c : Collision) → c.rule ≡ 11 → CollisionStands O N c → G c)
    → ((c : Collision) → c.rule ≡ 12 → CollisionStands O N c → G c) → (c : Collision) → CollisionStands O N c → G c
unfolding collision_at
of_each_collision G O N constant capture final c s =
    chosen (G c) c.rule 10 _ _ c (λ n. constant c n s)
    (chosen (G c) c.rule 11 _ _ c (λ n. capture c n s)
    (chosen (G c) c.rule 12 _ _ c (λ n. final c n s) (λ z. absurd (cc)))) s
