-- Verdicts that find nothing.
use Rattle.std.proofs.Common.{◌≡◌, false, ℕ, refl, sym, ◌∙◌, Some, None, ◌==◌}
use Rattle.jc_facts.specs.declared.key.Key.{Key}
use Rattle.jc_facts.specs.declared.verdict.Verdict.{Verdict}
use Rattle.jc_facts.specs.Names.{Bytes}
use Rattle.jc_promises.specs.rule.Collisions.{CollisionStands, collision_at, constant_added, capture_added, final_added}
use Rattle.jc_promises.specs.rule.Findings.{Stands, Subject, finding_at, subject_of}
use Rattle.jc_promises.specs.rule.Verdict.{IsVerdict}
use Rattle.jc_facts.specs.world.World.{World}
use Rattle.jc_promises.proofs.Pairs.{side_valid}
use Rattle.jc_sound.proofs.Itself.{quiet_itself, no_constant, no_capture, no_final}
use Rattle.jc_agree.specs.Compatible.{FindsNothing, SameRelease, EmptyRelease}
use Rattle.jc_agree.proofs.Nothing.{where_none, none_listed}
use Rattle.jc_agree.proofs.EmptyRelease.{nothing_found, nothing_added}
use Rattle.jc_lemmas.proofs.Options.{cond_none}

module _ (O N : World) (v : Verdict) (is : IsVerdict O N v) where
  finds_nothing : ((s : Subject) → finding_at O N s ≡ None) → ((rule : ℕ) (x : Bytes) (k : Key) → collision_at O N rule x k ≡ None) → FindsNothing v
  finds_nothing quiet calm = record {
    no_finding = none_listed (Stands O N) (λ f s. (let z : None ≡ Some f = sym (quiet (subject_of f)) ∙ s in cc)) v.findings is.findings.sound;
    no_collision = none_listed (CollisionStands O N) (λ c s. (let z : None ≡ Some c = sym (calm c.rule c.«class» c.key) ∙ s in cc)) v.collisions is.collisions.sound;
  }

-- between a side and itself
calm_itself : (O : World) (rule : ℕ) (x : Bytes) (k : Key) → constant_added O O x k ≡ false → capture_added O O x k ≡ false → final_added O O x k ≡ false → collision_at O O rule x k ≡ None
unfolding collision_at
calm_itself O rule x k p q r =
    cond_none (rule == 10) _ _ (where_none (constant_added O O x k) _ p)
    (cond_none (rule == 11) _ _ (where_none (capture_added O O x k) _ q)
    (cond_none (rule == 12) _ None (where_none (final_added O O x k) _ r) refl))

pub same_release : SameRelease
same_release O v pair is =
    let valid = side_valid O pair.run.old_bare pair.platform_valid pair.old_valid in
    finds_nothing O O v is (quiet_itself O valid) (λ rule x k. calm_itself O rule x k (no_constant O valid x k) (no_capture O valid x k) (no_final O valid x k))

pub empty_release : EmptyRelease
empty_release O N v pair empty is = finds_nothing O N v is (nothing_found O N pair empty) (nothing_added O N pair empty)
