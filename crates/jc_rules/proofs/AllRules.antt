-- Which rules there are, in which order, and what all find together means.
use Rattle.std.proofs.Common.{◌≡◌, ◌≤◌, ◌<◌, ℕ, Bool, true, false, cond, List, [], ◌++◌, refl, sym, ◌∙◌, ap, subst, Option, Some, None, ◌==◌, ◌⊎◌, inl, inr, arith}
use Rattle.std.specs.List.{All}
use Rattle.std.specs.declared.cmp.Ordering.TheVariants.{Less}
use Rattle.std.specs.Cmp.{nat_cmp_is}
use Rattle.std.proofs.lemmas.Bool.{eqb-true}
use Rattle.std.proofs.lemmas.List.Elements.{All-weaker}
use Rattle.jc_facts.specs.declared.client.ClientClass.{ClientClass}
use Rattle.jc_facts.specs.declared.finding.Finding.{Finding}
use Rattle.jc_facts.specs.declared.key.Key.{Key}
use Rattle.jc_facts.specs.declared.verdict.Collision.{Collision}
use Rattle.jc_facts.specs.declared.verdict.Note.{Note}
use Rattle.jc_facts.specs.declared.verdict.Note.TheVariants as note
use Rattle.jc_facts.specs.declared.verdict.Verdict.{Verdict}
use Rattle.jc_facts.specs.Names.{Bytes}
use Rattle.jc_facts.specs.world.World.{World, with_clients}
use Rattle.jc_promises.specs.client.Scope.{IsInScope}
use Rattle.jc_promises.specs.client.Keeps.{Keeps}
use Rattle.jc_facts.specs.client.Valid.{facts_of}
use Rattle.jc_promises.specs.rule.Collisions.{collision_at, CollisionStands}
use Rattle.jc_promises.specs.rule.Findings.{Subject, finding_at, finding_by, subject_of, Stands}
use Rattle.jc_promises.specs.client.Kept.{BreaksClass}
use Rattle.jc_promises.specs.client.Meets.{Meets}
use Rattle.jc_promises.specs.rule.Notes.{NoteStands}
use Rattle.jc_facts.specs.Orders.{finding_order, collision_order, note_order}
use Rattle.jc_facts.specs.Exactly.{HasExactly}
use Rattle.jc_promises.specs.rule.Verdict.{IsVerdict}
use Rattle.jc_sound.proofs.ClassGoneLaw.{class_gone_breaks}
use Rattle.jc_facts.proofs.InOrder.{exact_same, exact_append}
use Rattle.jc_sound.proofs.SoundnessLaws.{keeps}
use Rattle.jc_declared.specs.steps.Notes.{NoteIn, IsUnloadable, IsFixed, IsConstantNote}
use Rattle.jc_declared.proofs.NoteUnloadable.{notes_exact}
use Rattle.jc_sides.proofs.Pair.{pair_of}
use Rattle.jc_sides.specs.SidesOf.{SidesOf, AreSides}

-- ---- which rules there are

is_rule : {F : Type 0} (r n : ℕ) (o p : Option F) (f : F) (P : Type 0) → (r ≡ n → P) → (p ≡ Some f → P) → cond (r == n) o p ≡ Some f → P
is_rule r n o p f P this other h = go (r == n) refl h
  where
    go : (b : Bool) → (r == n) ≡ b → cond b o p ≡ Some f → P
    go true e q = this (eqb-true r n e)
    go false e q = other q

abbrev IsWithin : ℕ → ℕ → ℕ → Type 0
IsWithin low high r = (low ≤ r) × (r < high)

within : (low high r n : ℕ) → low ≤ n → n < high → r ≡ n → IsWithin low high r
within low high r n a b e = subst (IsWithin low high) (sym e) (a, b)

none_of : {F : Type 0} (f : F) (P : Type 0) → None ≡ Some f → P
none_of f P h = absurd (cc)

finding_rule : (O N : World) (s : Subject) (k : Option Key) (t : Option Bytes) (f : Finding) → finding_by O N s k t ≡ Some f → IsWithin 1 10 s.rule
finding_rule O N s None None f h =
    is_rule s.rule 1 _ _ f (IsWithin 1 10 s.rule) (within 1 10 s.rule 1 (omega arith) (omega arith))
    (is_rule s.rule 2 _ _ f (IsWithin 1 10 s.rule) (within 1 10 s.rule 2 (omega arith) (omega arith))
    (is_rule s.rule 3 _ _ f (IsWithin 1 10 s.rule) (within 1 10 s.rule 3 (omega arith) (omega arith)) (none_of f (IsWithin 1 10 s.rule)))) h
finding_rule O N s None (Some t) f h = is_rule s.rule 4 _ _ f (IsWithin 1 10 s.rule) (within 1 10 s.rule 4 (omega arith) (omega arith)) (none_of f (IsWithin 1 10 s.rule)) h
finding_rule O N s (Some k) None f h =
    is_rule s.rule 5 _ _ f (IsWithin 1 10 s.rule) (within 1 10 s.rule 5 (omega arith) (omega arith))
    (is_rule s.rule 6 _ _ f (IsWithin 1 10 s.rule) (within 1 10 s.rule 6 (omega arith) (omega arith))
    (is_rule s.rule 7 _ _ f (IsWithin 1 10 s.rule) (within 1 10 s.rule 7 (omega arith) (omega arith))
    (is_rule s.rule 8 _ _ f (IsWithin 1 10 s.rule) (within 1 10 s.rule 8 (omega arith) (omega arith))
    (is_rule s.rule 9 _ _ f (IsWithin 1 10 s.rule) (within 1 10 s.rule 9 (omega arith) (omega arith)) (none_of f (IsWithin 1 10 s.rule)))))) h
finding_rule O N s (Some k) (Some t) f h = none_of f (IsWithin 1 10 s.rule) h

pub known_finding : (O N : World) (f : Finding) → Stands O N f → IsWithin 1 10 f.rule
unfolding finding_at
known_finding O N f h = finding_rule O N (subject_of f) f.key f.target f h

pub known_collision : (O N : World) (c : Collision) → CollisionStands O N c → IsWithin 10 13 c.rule
unfolding collision_at
known_collision O N c h =
    is_rule c.rule 10 _ _ c (IsWithin 10 13 c.rule) (within 10 13 c.rule 10 (omega arith) (omega arith))
    (is_rule c.rule 11 _ _ c (IsWithin 10 13 c.rule) (within 10 13 c.rule 11 (omega arith) (omega arith))
    (is_rule c.rule 12 _ _ c (IsWithin 10 13 c.rule) (within 10 13 c.rule 12 (omega arith) (omega arith)) (none_of c (IsWithin 10 13 c.rule)))) h

-- of a number that no rule has there is nothing
pub no_finding : (O N : World) (n : ℕ) → (1 ≤ n → n < 10 → ⊥) → (f : Finding) → Stands O N f → f.rule ≡ n → ⊥
no_finding O N n never f h e = let k = subst (IsWithin 1 10) e (known_finding O N f h) in never k.0 k.1

pub no_collision : (O N : World) (n : ℕ) → (10 ≤ n → n < 13 → ⊥) → (c : Collision) → CollisionStands O N c → c.rule ≡ n → ⊥
no_collision O N n never c h e = let k = subst (IsWithin 10 13) e (known_collision O N c h) in never k.0 k.1

-- ---- the order

pub collision_rule_before : (c d : Collision) → c.rule < d.rule → collision_order c d ≡ Less
collision_rule_before c d h = rw (sym (nat_cmp_is c.rule d.rule Less h)) refl

module _ (s : SidesOf) where
  -- notes on classes, and then on constants
  pub all_notes : {ms ns ds es fs : List Note} → HasExactly note_order (NoteIn s.old true) ms → HasExactly note_order (NoteIn s.new false) ns → es ≡ ms ++ ns → HasExactly note_order (IsConstantNote s) ds → fs ≡ es ++ ds → HasExactly note_order (NoteStands s.old s.new) fs
  all_notes {ms} {ns} {ds} {es} {fs} ha hb e hd g =
      subst (HasExactly note_order (NoteStands s.old s.new)) (sym (g ∙ ap (λ (xs : List Note). xs ++ ds) e))
      (exact_same note_order (λ n. (IsUnloadable n × NoteStands s.old s.new n) ⊎ IsConstantNote s n) (NoteStands s.old s.new) (ms ++ ns ++ ds) to from
      (exact_append note_order (λ n. IsUnloadable n × NoteStands s.old s.new n) (IsConstantNote s) (ms ++ ns) ds (notes_exact s.old s.new ms ns ha hb) hd (λ m n p q. before m n p.0 q.0)))
    where
      to : (n : Note) → (IsUnloadable n × NoteStands s.old s.new n) ⊎ IsConstantNote s n → NoteStands s.old s.new n
      to n (inl p) = p.1
      to n (inr p) = p.1

      from : (n : Note) → NoteStands s.old s.new n → (IsUnloadable n × NoteStands s.old s.new n) ⊎ IsConstantNote s n
      from (note.Unloadable old x e) h = inl (tt, h)
      from (note.Fixed x k) h = inr (tt, h)

      before : (m n : Note) → IsUnloadable m → IsFixed n → note_order m n ≡ Less
      before (note.Unloadable true x e) (note.Fixed y k) p q = refl
      before (note.Unloadable false x e) (note.Fixed y k) p q = refl
      before (note.Unloadable old x e) (note.Unloadable b y d) p q = absurd q
      before (note.Fixed x k) n p q = absurd p

-- ---- what they mean

module _ (O N : World) (are : AreSides (record { old = O; new = N })) where
  pub nothing_breaks : (v : Verdict) → IsVerdict O N v → v.findings ≡ [] → (cs : List ClientClass) → IsInScope O N cs → All (λ c. ¬ (Meets (with_clients O (facts_of cs)) cs c)) v.collisions → Keeps O N cs
  nothing_breaks v is none cs scope met = keeps O N v cs (pair_of (record { old = O; new = N }) are) is none scope met

  pub gone_break : (fs : List Finding) → HasExactly finding_order (Stands O N) fs → All (λ f. f.rule ≡ 1 → BreaksClass O N f.«class» f.error) fs
  gone_break fs h =
      All-weaker (Stands O N) (λ f. f.rule ≡ 1 → BreaksClass O N f.«class» f.error)
      (λ f p r. class_gone_breaks O N are.run.old_bare are.run.new_bare are.old_side.platform are.old_side.release (subject_of f) f r p) fs h.sound
