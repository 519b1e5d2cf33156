-- The rules of a verdict tell whether it has a finding.
--     rules_tell      a rule of a finding is among them exactly where it has one
use Rattle.std.proofs.Common.{◌≡◌, ◌==◌, ◌||◌, Bool, true, false, not, cond, ℕ, List, [], ◌∷◌, ◌++◌, map, Option, Some, None, refl, sym, ap, subst, ◌∙◌}
use Rattle.std.specs.List.{AllByRecursion, list_any}
use Rattle.std.proofs.lemmas.Bool.{eqb-true}
use Rattle.std.proofs.lemmas.List.Elements.{recursion_from_All}
use Rattle.jc_facts.specs.declared.finding.Finding.{Finding}
use Rattle.jc_facts.specs.declared.verdict.Collision.{Collision}
use Rattle.jc_facts.specs.declared.verdict.Verdict.{Verdict}
use Rattle.jc_facts.specs.declared.key.Key.{Key}
use Rattle.jc_facts.specs.Names.{Bytes}
use Rattle.jc_facts.specs.world.World.{World}
use Rattle.jc_promises.specs.rule.Findings.{Subject, Stands, finding_at, finding_by, subject_of}
use Rattle.jc_promises.specs.rule.Collisions.{CollisionStands, collision_at}
use Rattle.jc_promises.specs.rule.Verdict.{IsVerdict}
use Rattle.jc_facts.specs.Verdicts.{is_incompatible, holds_some}
use Rattle.jc_gate.specs.Meanings.{has_no_finding}
use Rattle.jc_gate.specs.Rules.{is_of_finding}
use Rattle.jc_commands.specs.Reports.{rules_of}

by_rule : {X : Type 0} (P : ℕ → Type 0) (rule n : ℕ) (o p : Option X) (f : X) → P n → (p ≡ Some f → P rule) → cond (rule == n) o p ≡ Some f → P rule
by_rule {X} P rule n o p f at more e = go (rule == n) refl e
  where
    go : (b : Bool) → (rule == n) ≡ b → cond b o p ≡ Some f → P rule
    go true z w = subst P (sym (eqb-true rule n z)) at
    go false z w = more w

nothing : {X P : Type 0} (f : X) → ◌≡◌ {A = Option X} None (Some f) → P
nothing f e = absurd (cc)

-- ---- the rules of findings and of collisions

of_finding : (O N : World) (s : Subject) (k : Option Key) (t : Option Bytes) (f : Finding) → finding_by O N s k t ≡ Some f → is_of_finding s.rule ≡ true
of_finding O N s None None f e = by_rule Of s.rule 1 _ _ f refl (λ e2. by_rule Of s.rule 2 _ _ f refl (λ e3. by_rule Of s.rule 3 _ None f refl (nothing f) e3) e2) e
  where
    Of : ℕ → Type 0
    Of rule = is_of_finding rule ≡ true
of_finding O N s None (Some t) f e = by_rule Of s.rule 4 _ None f refl (nothing f) e
  where
    Of : ℕ → Type 0
    Of rule = is_of_finding rule ≡ true
of_finding O N s (Some k) None f e =
    by_rule Of s.rule 5 _ _ f refl (λ e2. by_rule Of s.rule 6 _ _ f refl (λ e3. by_rule Of s.rule 7 _ _ f refl (λ e4. by_rule Of s.rule 8 _ _ f refl (λ e5. by_rule Of s.rule 9 _ None f refl (nothing f) e5) e4) e3) e2) e
  where
    Of : ℕ → Type 0
    Of rule = is_of_finding rule ≡ true
of_finding O N s (Some k) (Some t) f e = nothing f e

rule_of_finding : (O N : World) (f : Finding) → Stands O N f → is_of_finding f.rule ≡ true
unfolding finding_at
rule_of_finding O N f e = of_finding O N (subject_of f) f.key f.target f e

rule_of_collision : (O N : World) (c : Collision) → CollisionStands O N c → is_of_finding c.rule ≡ false
unfolding collision_at
rule_of_collision O N c e = by_rule Other c.rule 10 _ _ c refl (λ e2. by_rule Other c.rule 11 _ _ c refl (λ e3. by_rule Other c.rule 12 _ None c refl (nothing c) e3) e2) e
  where
    Other : ℕ → Type 0
    Other rule = is_of_finding rule ≡ false

no_more : (O N : World) (cs : List Collision) → AllByRecursion (CollisionStands O N) cs → list_any is_of_finding (map (λ (c : Collision). c.rule) cs) ≡ false
no_more O N [] h = refl
no_more O N (c ∷ cs) h = ap (λ b. b || list_any is_of_finding (map (λ (d : Collision). d.rule) cs)) (rule_of_collision O N c h.0) ∙ no_more O N cs h.1

tell : (O N : World) (fs : List Finding) (cs : List Collision) → AllByRecursion (Stands O N) fs → AllByRecursion (CollisionStands O N) cs
    → list_any is_of_finding (map (λ (f : Finding). f.rule) fs ++ map (λ (c : Collision). c.rule) cs) ≡ holds_some fs
tell O N [] cs h k = no_more O N cs k
tell O N (f ∷ fs) cs h k = ap (λ b. b || list_any is_of_finding (map (λ (g : Finding). g.rule) fs ++ map (λ (c : Collision). c.rule) cs)) (rule_of_finding O N f h.0)

pub rules_tell : (O N : World) (v : Verdict) → IsVerdict O N v → has_no_finding (rules_of v) ≡ not (is_incompatible v)
rules_tell O N v is =
    ap not (tell O N v.findings v.collisions (recursion_from_All (Stands O N) v.findings is.findings.sound) (recursion_from_All (CollisionStands O N) v.collisions is.collisions.sound))

pub none_found : (v : Verdict) → not (is_incompatible v) ≡ true → v.findings ≡ []
none_found v e = go v.findings e
  where
    go : (fs : List Finding) → not (holds_some fs) ≡ true → fs ≡ []
    go [] h = refl
    go (f ∷ fs) h = absurd (cc)

pub found_none : (v : Verdict) → v.findings ≡ [] → not (is_incompatible v) ≡ true
found_none v e = ap (λ fs. not (holds_some fs)) e
