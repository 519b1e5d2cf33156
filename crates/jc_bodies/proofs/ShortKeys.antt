-- The keys of findings and collisions are short, as classes declare them.
use Rattle.std.proofs.Common.{◌≡◌, true, false, List, [], ◌∷◌, ◌++◌, Option, Some, None, refl, is_some, ◌⊎◌, inl, inr}
use Rattle.std.specs.List.{list_any}
use Rattle.std.proofs.lemmas.Bool.{or_cases}
use Rattle.jc_facts.specs.declared.class_facts.ClassFacts.{ClassFacts}
use Rattle.jc_facts.specs.declared.class_facts.Member.{Member}
use Rattle.jc_facts.specs.declared.finding.Finding.{Finding}
use Rattle.jc_facts.specs.declared.verdict.Collision.{Collision}
use Rattle.jc_facts.specs.declared.key.Key.{Key}
use Rattle.jc_promises.specs.rule.Collisions.{CollisionStands}
use Rattle.jc_promises.specs.rule.Findings.{Stands, subject_of}
use Rattle.jc_facts.specs.world.Hierarchy.{chain, superinterfaces}
use Rattle.jc_facts.specs.world.Loading.{load_fault}
use Rattle.jc_facts.specs.Names.{Bytes}
use Rattle.jc_facts.specs.world.World.{World, own_field_of, own_method_of}
use Rattle.jc_sound.specs.Findings.{declares_key}
use Rattle.jc_worlds.specs.Hierarchy.{above}
use Rattle.jc_worlds.proofs.Above.{chain-each, superinterfaces-each}
use Rattle.jc_sound.proofs.KeyLaws.{keys_are_declared, collision_keys_are_declared}
use Rattle.jc_lemmas.proofs.Listed.{EachOf, EachOf-append}
use Rattle.jc_bodies.specs.Files.{CanWrite}
use Rattle.jc_bodies.proofs.Entries.{IsShortKey}
use Rattle.jc_bodies.proofs.Linking.{IsSound, method_short, field_short}
use Rattle.jc_bodies.proofs.SoundWorlds.{IsGood, sound_old, sound_new}

declared_short : (c : ClassFacts) (k : Key) → IsGood c → declares_key k c ≡ true → IsShortKey k
declared_short c k g h = go (or_cases (is_some (own_field_of c k)) (is_some (own_method_of c k)) h)
  where
    of_field : (o : Option Member) → own_field_of c k ≡ o → is_some o ≡ true → IsShortKey k
    of_field None e q = absurd (let z : false ≡ true = q in cc)
    of_field (Some m) e q = field_short c k m g.0 g.1 e

    of_method : (o : Option Member) → own_method_of c k ≡ o → is_some o ≡ true → IsShortKey k
    of_method None e q = absurd (let z : false ≡ true = q in cc)
    of_method (Some m) e q = method_short c k m g.0 g.1 e

    go : (is_some (own_field_of c k) ≡ true) ⊎ (is_some (own_method_of c k) ≡ true) → IsShortKey k
    go (inl q) = of_field (own_field_of c k) refl q
    go (inr q) = of_method (own_method_of c k) refl q

any_short : (cs : List ClassFacts) (k : Key) → EachOf IsGood cs → list_any (declares_key k) cs ≡ true → IsShortKey k
any_short [] k g h = absurd (let z : false ≡ true = h in cc)
any_short (c ∷ cs) k g h = go (or_cases (declares_key k c) (list_any (declares_key k) cs) h) (any_short cs k g.1)
  where
    go : (declares_key k c ≡ true) ⊎ (list_any (declares_key k) cs ≡ true) → (list_any (declares_key k) cs ≡ true → IsShortKey k) → IsShortKey k
    go (inl q) r = declared_short c k g.0 q
    go (inr q) r = r q

-- all that stands above a class that loads
above_good : (W : World) → IsSound W → (x : Bytes) → load_fault W x ≡ None → EachOf IsGood (above W x)
above_good W s x h = EachOf-append IsGood (chain W x) (superinterfaces W x) (chain-each W IsGood (λ y c e l. (s.valid y c e, s.short y c e)) x h) (superinterfaces-each W IsGood (λ y c e l i. (s.valid y c e, s.short y c e)) x h)

module _ (O N : World) (can : CanWrite O N) where
  -- of a finding on a class that loads on both sides
  pub finding_key : (f : Finding) (k : Key) → f.key ≡ Some k → Stands O N f → load_fault O f.«class» ≡ None → load_fault N f.«class» ≡ None → IsShortKey k
  finding_key f k e s lo ln =
      any_short (above O f.«class» ++ above N f.«class») k
      (EachOf-append IsGood (above O f.«class») (above N f.«class») (above_good O (sound_old O N can) f.«class» lo) (above_good N (sound_new O N can) f.«class» ln))
      (keys_are_declared O N can.plan.pair (subject_of f) k f e s)

  -- of a collision on a class that loads on the new side
  pub collision_key : (c : Collision) → CollisionStands O N c → load_fault N c.«class» ≡ None → IsShortKey c.key
  collision_key c s l =
      any_short (above N c.«class») c.key (above_good N (sound_new O N can) c.«class» l)
      (collision_keys_are_declared O N can.plan.pair c.rule c.«class» c.key c s)
