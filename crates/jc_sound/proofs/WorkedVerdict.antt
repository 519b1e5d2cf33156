-- The premises of soundness can be met: the verdict on an unchanged release is empty, and a client world in scope is kept.
use Rattle.std.proofs.Common.{◌≡◌, ℕ, Bool, true, false, cond, List, [], ◌∷◌, refl, sym, ◌∙◌, ap, Option, Some, None, is_some, codes, ◌==◌, ◌&&◌}
use Rattle.std.proofs.lemmas.Bool.{and_parts}
use Rattle.std.proofs.lemmas.List.Elements.{All-from_recursion, All-nil}
use Rattle.jc_facts.specs.declared.class_facts.ClassFacts.{ClassFacts}
use Rattle.jc_facts.specs.declared.class_facts.Fixed.{Fixed}
use Rattle.jc_facts.specs.declared.class_facts.Constant.TheVariants.{Int}
use Rattle.jc_facts.specs.declared.key.Key.{Key}
use Rattle.jc_facts.specs.declared.link_error.LinkError.{LinkError}
use Rattle.jc_facts.specs.declared.verdict.Collision.{Collision}
use Rattle.jc_facts.specs.declared.verdict.Note.{Note}
use Rattle.jc_facts.specs.declared.verdict.Note.TheVariants as note
use Rattle.jc_facts.specs.declared.verdict.Verdict.{Verdict}
use Rattle.jc_facts.specs.Names.{Bytes, same}
use Rattle.jc_facts.specs.Options.{and_then, some_and}
use Rattle.jc_facts.specs.world.World.{World, find_class, own_field_of, class_named, with_clients}
use Rattle.jc_promises.specs.Pairs.{IsPair}
use Rattle.jc_promises.proofs.Pairs.{plain_pair}
use Rattle.jc_facts.specs.world.Loading.{load_fault}
use Rattle.jc_facts.specs.file.Valid.{IsValidClass}
use Rattle.jc_facts.specs.world.Root.{HasRoot}
use Rattle.jc_promises.specs.client.Keeps.{Keeps}
use Rattle.jc_facts.specs.client.Valid.{facts_of}
use Rattle.jc_promises.specs.client.Meets.{Meets}
use Rattle.jc_promises.specs.rule.Bases.{is_kept}
use Rattle.jc_promises.specs.rule.Findings.{Stands, subject_of}
use Rattle.jc_promises.specs.rule.Collisions.{collision_at, CollisionStands}
use Rattle.jc_promises.specs.rule.Notes.{has_static_final, has_lost_constant, in_release, NoteStands}
use Rattle.jc_facts.specs.Exactly.{Rises}
use Rattle.jc_promises.specs.rule.Verdict.{IsVerdict}
use Rattle.jc_facts.proofs.Same.{same_is}
use Rattle.jc_sound.proofs.Itself.{quiet_itself, no_constant, no_capture, no_final}
use Rattle.jc_worlds.proofs.ChoiceLaws.{valid_in}
use Rattle.jc_sound.proofs.SoundnessLaws.{keeps}
use Rattle.jc_sound.proofs.Examples.{computes, key, member, public_class, plain, object, over}
use Rattle.jc_sound.proofs.WorkedClients.{p_A, user, root_is_valid, a_client_world_in_scope}

pub plain_is_valid : IsValidClass (plain p_A)
unfolding computes
plain_is_valid = record {
  name = refl;
  flags = refl;
  superclass = refl;
  interfaces = refl;
  fields = refl;
  fields_differ = refl;
  methods = refl;
  methods_differ = refl;
  permits = refl;
  nest_host = refl;
  nest_members = refl;
  constants = refl;
  constants_differ = refl;
  signatures = refl;
  signatures_differ = refl;
  one_of_class = refl;
}

abbrev one : World
one = over (plain p_A ∷ [])

valid_one : (x : Bytes) (c : ClassFacts) → find_class one x ≡ Some c → IsValidClass c
valid_one = valid_in one (All-from_recursion IsValidClass (object ∷ plain p_A ∷ []) (root_is_valid, (plain_is_valid, tt)))

abbrev none : Option Collision
none = None

-- nothing collides with itself
no_collision : (O : World) → ((x : Bytes) (c : ClassFacts) → find_class O x ≡ Some c → IsValidClass c) → (rule : ℕ) (x : Bytes) (k : Key) → collision_at O O rule x k ≡ None
unfolding collision_at
no_collision O valid rule x k = rw (no_constant O valid x k, no_capture O valid x k, no_final O valid x k) (go (rule == 10) (rule == 11) (rule == 12))
  where
    go : (a b c : Bool) → cond a none (cond b none (cond c none none)) ≡ none
    go true b c = refl
    go false true c = refl
    go false false true = refl
    go false false false = refl

loads : load_fault one p_A ≡ None
unfolding computes
loads = refl

released : (x : Bytes) → is_some (in_release one x) ≡ true → p_A ≡ x
unfolding class_named
released x h = go (same p_A x) refl h
  where
    go : (b : Bool) → same p_A x ≡ b → is_some (cond b (Some (plain p_A)) None) ≡ true → p_A ≡ x
    go true q r = same_is p_A x q
    go false q r = absurd (cc)

unloads : (x : Bytes) (e : LinkError) → is_some (in_release one x) ≡ true → load_fault one x ≡ Some e → ⊥
unloads x e h l = let z : None ≡ Some e = sym loads ∙ ap (load_fault one) (released x h) ∙ l in cc

nothing_lost : (k : Key) → has_lost_constant (plain p_A) (plain p_A) k ≡ true → ⊥
unfolding has_lost_constant and_then
nothing_lost k h = let p = and_parts (has_static_final (plain p_A) k && is_some (own_field_of (plain p_A) k)) false h in cc

lost : (x : Bytes) (k : Key) → some_and (λ c. some_and (λ d. has_lost_constant c d k) (in_release one x)) (in_release one x) ≡ true → ⊥
unfolding class_named
lost x k h = go (same p_A x) h
  where
    go : (b : Bool) → some_and (λ c. some_and (λ d. has_lost_constant c d k) (cond b (Some (plain p_A)) None)) (cond b (Some (plain p_A)) None) ≡ true → ⊥
    go true r = nothing_lost k r
    go false r = cc

no_note : (n : Note) → NoteStands one one n → ⊥
no_note (note.Unloadable true x e) h = unloads x e h.0 h.1
no_note (note.Unloadable false x e) h = unloads x e h.0 h.1
no_note (note.Fixed x k) h = let p = and_parts (is_kept one one x) (some_and (λ c. some_and (λ d. has_lost_constant c d k) (in_release one x)) (in_release one x)) h in lost x k p.1

abbrev nothing : Verdict
nothing = record { findings = []; collisions = []; notes = [] }

verdict_on_an_unchanged_release : IsVerdict one one nothing
unfolding Rises
verdict_on_an_unchanged_release = record {
  findings = record { in_order = tt; sound = All-nil (Stands one one); complete = λ f s. absurd (let z : None ≡ Some f = sym (quiet_itself one valid_one (subject_of f)) ∙ s in cc) };
  collisions = record { in_order = tt; sound = All-nil (CollisionStands one one); complete = λ c s. absurd (let z : None ≡ Some c = sym (no_collision one valid_one c.rule c.«class» c.key) ∙ s in cc) };
  notes = record { in_order = tt; sound = All-nil (NoteStands one one); complete = λ n s. absurd (no_note n s) };
}

pub root : HasRoot (object ∷ [])
unfolding computes
root = record { root = object; is_there = refl; superclass = refl; interfaces = refl; fields = refl; public = refl; class = refl }

one_pair : IsPair one one
one_pair =
    plain_pair (object ∷ []) (plain p_A ∷ []) (plain p_A ∷ []) root
    (All-from_recursion IsValidClass (object ∷ []) (root_is_valid, tt))
    (All-from_recursion IsValidClass (plain p_A ∷ []) (plain_is_valid, tt))
    (All-from_recursion IsValidClass (plain p_A ∷ []) (plain_is_valid, tt))

-- soundness at this world
user_is_kept : Keeps one one (user ∷ [])
user_is_kept =
    keeps one one nothing (user ∷ []) one_pair verdict_on_an_unchanged_release refl a_client_world_in_scope (All-nil (λ c. Meets (with_clients one (facts_of (user ∷ []))) (user ∷ []) c → ⊥))

-- ---- constants

abbrev f_key : Key
f_key = key (codes "f") (codes "I")

abbrev with_constant : List Fixed → ClassFacts
with_constant cs = record (public_class p_A (member (codes "f") (codes "I") 0x19 ∷ []) []) { constants = cs }

changed_constant : has_lost_constant (with_constant (record { key = f_key; value = Int 1 } ∷ [])) (with_constant (record { key = f_key; value = Int 2 } ∷ [])) f_key ≡ true
unfolding computes
changed_constant = refl

same_constant : has_lost_constant (with_constant (record { key = f_key; value = Int 1 } ∷ [])) (with_constant (record { key = f_key; value = Int 1 } ∷ [])) f_key ≡ false
unfolding computes
same_constant = refl

constant_no_more : has_lost_constant (with_constant (record { key = f_key; value = Int 1 } ∷ [])) (with_constant []) f_key ≡ true
unfolding computes
constant_no_more = refl

constant_of_no_field : has_lost_constant (with_constant (record { key = f_key; value = Int 1 } ∷ [])) (plain p_A) f_key ≡ false
unfolding computes
constant_of_no_field = refl
