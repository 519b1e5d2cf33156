-- A verdict within a limit, or past it.
use Rattle.std.proofs.Common.{◌≡◌, ◌≤◌, ◌<◌, ◌-◌, ℕ, true, false, List, length, refl, subst, Option, Some, None, inl, inr, arith}
use Rattle.std.specs.Option.{IfSome, IsSome}
use Rattle.std.proofs.lemmas.Bool.{ltb-true, ltb-false}
use Rattle.std.proofs.lemmas.List.Elements.{All-contains}
use Rattle.jc_facts.specs.declared.finding.Finding.{Finding}
use Rattle.jc_facts.specs.declared.verdict.Verdict.{Verdict}
use Rattle.jc_facts.specs.Exactly.{HasExactly}
use Rattle.jc_promises.specs.rule.Collisions.{CollisionStands}
use Rattle.jc_promises.specs.rule.Findings.{Stands}
use Rattle.jc_facts.specs.Orders.{finding_order, collision_order}
use Rattle.jc_promises.specs.rule.Verdict.{IsVerdict}
use Rattle.jc_facts.specs.Verdicts.{count_of}
use Rattle.jc_facts.specs.world.World.{World}
use Rattle.jc_sound.proofs.VerdictLaw.{no_longer, finding_total, collision_total}
use Rattle.jc_sides.specs.Limit.{HasMore, beside}
use Rattle.jc_sides.specs.SidesOf.{SidesOf, AreSides}
use Rattle.jc_rules.specs.Verdicts.{IsVerdictWithin, KeepsAll, BreaksEach}
use Rattle.jc_rules.specs.steps.Within.{IsLimited, IsPast}
use Rattle.jc_rules.proofs.AllRules.{nothing_breaks, gone_break}

-- without a limit there is a verdict
pub always_limited : (s : SidesOf) (o : Option Verdict) → IsLimited s None o → IsSome o
always_limited s (Some v) h = refl
always_limited s None (inl h) = absurd (let clash : false ≡ true = h.many in cc)
always_limited s None (inr h) = absurd (let clash : false ≡ true = h.3.many in cc)

-- it is the one
pub limited_exact : (s : SidesOf) (most : Option ℕ) (o : Option Verdict) (v : Verdict) → o ≡ Some v → IsLimited s most o → IsVerdict s.old s.new v
limited_exact s most o v e h = (subst (λ (p : Option Verdict). IsLimited s most p) e h).0

-- what more findings there are than some is more than those
module _ (s : SidesOf) (v : Verdict) (is : IsVerdict s.old s.new v) where
  findings_more : (most : Option ℕ) (h : HasMore finding_order (Stands s.old s.new) most) → length h.some ≤ length v.findings
  findings_more most h =
      no_longer finding_order finding_total h.some v.findings h.in_order is.findings.in_order (λ f c. is.findings.complete f (All-contains (Stands s.old s.new) h.some f h.stand c))

  findings_all : (fs : List Finding) → HasExactly finding_order (Stands s.old s.new) fs → length fs ≤ length v.findings
  findings_all fs h = no_longer finding_order finding_total fs v.findings h.in_order is.findings.in_order (λ f c. is.findings.complete f (All-contains (Stands s.old s.new) fs f h.sound c))

  collisions_more : (most : Option ℕ) (h : HasMore collision_order (CollisionStands s.old s.new) most) → length h.some ≤ length v.collisions
  collisions_more most h =
      no_longer collision_order collision_total h.some v.collisions h.in_order is.collisions.in_order (λ d c. is.collisions.complete d (All-contains (CollisionStands s.old s.new) h.some d h.stand c))

  past : (most : ℕ) → IsPast s (Some most) → most < count_of v
  past most (inl h) =
      let a : length h.some ≤ length v.findings = findings_more (Some most) h in
      let b : most < length h.some = ltb-true most (length h.some) h.many in
      omega arith
  past most (inr (fs, exact, within, h)) =
      let a : length fs ≤ length v.findings = findings_all fs exact in
      let b : length h.some ≤ length v.collisions = collisions_more (beside (Some most) (length fs)) h in
      let c : length fs ≤ most = ltb-false most (length fs) within in
      let d : most - length fs < length h.some = ltb-true (most - length fs) (length h.some) h.many in
      omega arith

pub limited_within : (s : SidesOf) (most : ℕ) (o : Option Verdict) → IsLimited s (Some most) o → IsVerdictWithin s.old s.new most o
limited_within s most (Some v) h = (h.0, ltb-false most (count_of v) h.1)
limited_within s most None h = λ v is. past s v is most h

-- ---- what a verdict within a limit means

module _ (O N : World) (most : ℕ) (are : AreSides (record { old = O; new = N })) where
  pub kept_within : (o : Option Verdict) → IsVerdictWithin O N most o → IfSome o (KeepsAll O N)
  kept_within None h = tt
  kept_within (Some v) h = nothing_breaks O N are v h.0

  pub broken_within : (o : Option Verdict) → IsVerdictWithin O N most o → IfSome o (BreaksEach O N)
  broken_within None h = tt
  broken_within (Some v) h = gone_break O N are v.findings h.0.findings
