-- Soundness, from a verdict and from the rules alone, whole and with fewer rules.
use Rattle.std.proofs.Common.{◌≡◌, ◌≤◌, ℕ, Bool, true, false, not, cond, List, [], ◌∷◌, refl, ◌∙◌, ap, Some, ◌||◌, ◌==◌, nat_le, ◌⊎◌, inl, inr, arith}
use Rattle.std.specs.List.{All, Contains}
use Rattle.std.proofs.lemmas.List.Elements.{recursion_from_All, All-contains}
use Rattle.std.proofs.lemmas.Bool.{le-leb, both_ways, or_left}
use Rattle.std.proofs.lemmas.Map.Views.{exact_unsigned_eq}
use Rattle.jc_facts.specs.declared.class_facts.ClassFacts.{ClassFacts}
use Rattle.jc_facts.specs.declared.class_facts.Member.{Member}
use Rattle.jc_facts.specs.declared.client.ClientClass.{ClientClass}
use Rattle.jc_facts.specs.declared.key.Key.{Key}
use Rattle.jc_facts.specs.declared.act.Act.TheVariants.{GetField, InvokeVirtual, Override}
use Rattle.jc_facts.specs.declared.link_error.LinkError.TheVariants.{IncompatibleClassChangeError}
use Rattle.jc_facts.specs.declared.verdict.Collision.{Collision}
use Rattle.jc_facts.specs.Names.{Bytes, same}
use Rattle.jc_desc.specs.Names.{is_init_name, is_clinit_name}
use Rattle.jc_facts.specs.world.World.{World, class_named, with_clients}
use Rattle.jc_facts.specs.client.Valid.{facts_of}
use Rattle.jc_promises.specs.client.Meets.{Meets, MeetsConstant, MeetsCapture, MeetsFinal}
use Rattle.jc_facts.specs.world.Inheritance.{is_inheritable}
use Rattle.jc_promises.specs.rule.Collisions.{made_collision, collision_at, CollisionStands, constant_added, capture_added, final_added, capture_error}
use Rattle.jc_sound.specs.Soundness.{Soundness, SoundnessOfRules, FindNothing, MeetsNone, TypesKept, FieldsKept, KeptWithoutMethods}
use Rattle.jc_promises.specs.client.Kept.{DeclareNone}
use Rattle.jc_lemmas.proofs.Listed.{none, cases, EachOf, EachOf-map}
use Rattle.jc_facts.proofs.Same.{same_itself}
use Rattle.jc_sound.proofs.Standing.{Quiet, all_quiet}
use Rattle.jc_sound.proofs.Scope.{DeclaresNone, scope_loads, scope_class, scope_assign}
use Rattle.jc_facts.specs.declared.client.Item.TheVariants as item
use Rattle.jc_sound.proofs.Sound.{loads_kept, keeps_all, reached_part, field_kept}
use Rattle.jc_sound.proofs.Staged.{loads_of, keeps_without_methods}
use Rattle.jc_sound.proofs.FindingLaws.{empty_means_none}

-- ---- a collision that stands, of each kind

pub constant_is : (O N : World) (i : Bytes) (k : Key) → constant_added O N i k ≡ true → CollisionStands O N (made_collision 10 i k GetField IncompatibleClassChangeError)
unfolding collision_at
constant_is O N i k e = rw e refl

pub capture_is : (O N : World) (a : Bytes) (k : Key) → capture_added O N a k ≡ true → CollisionStands O N (made_collision 11 a k InvokeVirtual (capture_error N a k))
unfolding collision_at
capture_is O N a k e = rw e refl

pub final_is : (O N : World) (a : Bytes) (k : Key) → final_added O N a k ≡ true → CollisionStands O N (made_collision 12 a k Override IncompatibleClassChangeError)
unfolding collision_at
final_is O N a k e = rw e refl

-- ---- whole

pub rules_keep : SoundnessOfRules
rules_keep O N cs pair quiet scope met =
    let W = with_clients O (facts_of cs) in
    let q = all_quiet O N quiet in
    let final : (a : Bytes) (k : Key) → final_added O N a k ≡ true → MeetsFinal W cs a k → ⊥ = λ a k e m. met (made_collision 12 a k Override IncompatibleClassChangeError) (final_is O N a k e) (inr (inr (refl, m))) in
    let constant : (i : Bytes) (k : Key) → constant_added O N i k ≡ true → MeetsConstant W cs i k → ⊥ = λ i k e m. met (made_collision 10 i k GetField IncompatibleClassChangeError) (constant_is O N i k e) (inl (refl, m)) in
    let capture : (a : Bytes) (k : Key) → capture_added O N a k ≡ true → MeetsCapture W cs a k → ⊥ = λ a k e m. met (made_collision 11 a k InvokeVirtual (capture_error N a k)) (capture_is O N a k e) (inr (inl (refl, m))) in
    keeps_all O N cs pair q scope (loads_kept O N cs pair q scope refl final) refl refl refl refl constant capture

pub keeps : Soundness
keeps O N v cs pair verdict empty scope met =
    let W = with_clients O (facts_of cs) in
    rules_keep O N cs pair (empty_means_none O N v verdict empty) scope
    (λ c stands. All-contains (λ (c : Collision). Meets W cs c → ⊥) v.collisions c met (verdict.collisions.complete c stands))

-- ---- with fewer rules

abbrev quiet_of : (rules : ℕ → Bool) → ((n : ℕ) → n ≤ 4 → rules n ≡ true) → (O N : World) → FindNothing rules O N → Quiet O N
quiet_of rules first O N q = record { rules = rules; first = first; none = q }

up_to_4 : (n : ℕ) → n ≤ 4 → nat_le n 4 ≡ true
up_to_4 n h = le-leb n 4 h

never_6 : (n : ℕ) → n ≤ 4 → not (n == 6) ≡ true
never_6 n h = go (n == 6) refl
  where
    go : (b : Bool) → (n == 6) ≡ b → not b ≡ true
    go false e = refl
    go true e = absurd (let z : n ≡ 6 = exact_unsigned_eq n 6 e in omega arith)

declare_none : (cs : List ClientClass) → DeclareNone cs → EachOf (λ (c : ClientClass). DeclaresNone c.facts) cs
declare_none cs h =
    EachOf-map (λ (c : ClientClass) a. recursion_from_All (λ (m : Member). (is_init_name m.name || is_clinit_name m.name || not (is_inheritable m)) ≡ true) c.facts.methods a) cs
    (recursion_from_All (λ (c : ClientClass). All (λ (m : Member). (is_init_name m.name || is_clinit_name m.name || not (is_inheritable m)) ≡ true) c.facts.methods) cs h)

no_constant : (O N : World) (cs : List ClientClass) → MeetsNone 10 O N cs → (i : Bytes) (k : Key) → constant_added O N i k ≡ true → MeetsConstant (with_clients O (facts_of cs)) cs i k → ⊥
no_constant O N cs met i k e m = met (made_collision 10 i k GetField IncompatibleClassChangeError) refl (constant_is O N i k e) (inl (refl, m))

no_capture : (O N : World) (cs : List ClientClass) → MeetsNone 11 O N cs → (a : Bytes) (k : Key) → capture_added O N a k ≡ true → MeetsCapture (with_clients O (facts_of cs)) cs a k → ⊥
no_capture O N cs met a k e m = met (made_collision 11 a k InvokeVirtual (capture_error N a k)) refl (capture_is O N a k e) (inr (inl (refl, m)))

-- a client's record is found by its name
pub client_there : (cs : List ClientClass) (c : ClientClass) → Contains cs c → (d : ClassFacts) × (class_named (facts_of cs) c.facts.name ≡ Some d)
unfolding class_named
client_there [] c h = absurd (none c h)
client_there (d ∷ cs) c h = go (same d.facts.name c.facts.name) refl (cases d cs c h) (client_there cs c)
  where
    go : (b : Bool) → same d.facts.name c.facts.name ≡ b → (d ≡ c) ⊎ Contains cs c → (Contains cs c → (e : ClassFacts) × (class_named (facts_of cs) c.facts.name ≡ Some e))
        → (e : ClassFacts) × (cond b (Some d.facts) (class_named (facts_of cs) c.facts.name) ≡ Some e)
    go true e w r = (d.facts, refl)
    go false e (inl is) r = absurd (both_ways (same d.facts.name c.facts.name) e (ap (λ (z : ClientClass). same z.facts.name c.facts.name) is ∙ same_itself c.facts.name))
    go false e (inr k) r = r k

pub types_kept : TypesKept
types_kept O N cs run root find_nothing scope none_declared = record {
  loading = λ c h. let t = client_there cs c h in scope_loads O N cs run root q scope d c.facts.name t.0 t.1;
  classes = λ c h. let t = client_there cs c h in scope_class O N cs run root q scope d c.facts.name t.0 t.1;
  assignments = λ c h. let t = client_there cs c h in scope_assign O N cs run root q scope d c.facts.name t.0 t.1;
}
  where
    q : Quiet O N
    q = quiet_of (λ r. nat_le r 4) up_to_4 O N find_nothing

    d : EachOf (λ (c : ClientClass). DeclaresNone c.facts) cs
    d = declare_none cs none_declared

pub fields_kept : FieldsKept
fields_kept O N cs pair find_nothing scope none met c act t k r place is_in loaded form there reach ok =
    let q = quiet_of (λ r. nat_le r 4 || r == 7) (λ n h. or_left (nat_le n 4) (n == 7) (up_to_4 n h)) O N find_nothing in
    let loads = loads_of O N cs pair q scope (declare_none cs none) in
    field_kept O N cs pair q scope loads refl (no_constant O N cs met) c act t k r place form is_in loaded there
    (reached_part O N cs pair q scope loads c is_in (item.Access act t k r place) reach) ok

pub kept_without_methods : KeptWithoutMethods
kept_without_methods O N cs pair find_nothing scope none constant capture =
    let q = quiet_of (λ r. not (r == 6)) never_6 O N find_nothing in
    keeps_without_methods O N cs pair q scope (declare_none cs none)
    refl refl refl refl (no_constant O N cs constant) (no_capture O N cs capture)
