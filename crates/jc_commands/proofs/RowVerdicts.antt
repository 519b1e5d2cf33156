-- The verdicts on the steps of a row of releases that go with their platform.
--     some_row      each step has one
--     few_or_many      each has few findings, or one has too many
use Rattle.std.proofs.Common.{◌≡◌, ◌≤◌, ◌<◌, ◌⊎◌, inl, inr, Bool, true, false, List, [], ◌∷◌, None, refl, sym, subst}
use Rattle.std.specs.Prelude.{nat_lt}
use Rattle.std.specs.List.{All, Contains}
use Rattle.std.proofs.lemmas.Bool.{ltb-true, ltb-false}
use Rattle.jc_facts.specs.declared.class_facts.ClassFacts.{ClassFacts}
use Rattle.jc_facts.specs.declared.verdict.Verdict.{Verdict}
use Rattle.jc_facts.specs.world.Root.{HasRoot}
use Rattle.jc_facts.specs.file.Valid.{IsValidClass}
use Rattle.jc_promises.specs.rule.Verdict.{IsVerdict}
use Rattle.jc_facts.specs.Verdicts.{count_of}
use Rattle.jc_facts.specs.world.World.{side}
use Rattle.jc_promises.proofs.Pairs.{plain_pair}
use Rattle.jc_lemmas.proofs.Listed.{EachOf, none, cases, here, there}
use Rattle.jc_sound.proofs.VerdictLaw.{verdict_is_one}
use Rattle.jc_history.specs.Row.{Step, steps_from, steps_of, AreVerdicts}
use Rattle.jc_commands.specs.History.{row_of, mismatch_of_row, IsFitRow, IsUnfitRow}
use Rattle.jc_releases.specs.declared.limits.TheConstants.{MAX_FINDINGS}
use Rattle.jc_releases.specs.declared.stop.Part.TheVariants as parts
use Rattle.jc_releases.specs.declared.stop.Stop.{Stop}
use Rattle.jc_releases.specs.declared.stop.Stop.TheVariants as stops
use Rattle.jc_commands.proofs.SomeVerdict.{some_verdict}

some_from : (platform first : List ClassFacts) (later : List (List ClassFacts)) → HasRoot platform → All IsValidClass platform → All IsValidClass first → EachOf (All IsValidClass) later
    → (vs : List Verdict) × AreVerdicts (steps_from (side platform first) (row_of platform later)) vs
some_from platform first [] root vp vf vl = ([], tt)
some_from platform first (n ∷ later) root vp vf vl =
    let v = some_verdict (side platform first) (side platform n) (plain_pair platform first n root vp vf vl.0) in
    let vs = some_from platform n later root vp vl.0 vl.1 in
    (v.0 ∷ vs.0, (v.1, vs.1))

pub some_row : (platform : List ClassFacts) (releases : List (List ClassFacts)) → HasRoot platform → All IsValidClass platform → EachOf (All IsValidClass) releases
    → (vs : List Verdict) × AreVerdicts (steps_of (row_of platform releases)) vs
some_row platform [] root vp vr = ([], tt)
some_row platform (first ∷ later) root vp vr = some_from platform first later root vp vr.0 vr.1

-- a step of too many
record HasMany (steps : List Step) : Type 0 where
  step : Step
  is_step : Contains steps step
  verdict : Verdict
  exact : IsVerdict step.old step.new verdict
  many : MAX_FINDINGS < count_of verdict

abbrev AreFew : List Step → Type 0
AreFew steps = (s : Step) → Contains steps s → (v : Verdict) → IsVerdict s.old s.new v → count_of v ≤ MAX_FINDINGS

few_each : (steps : List Step) (vs : List Verdict) → AreVerdicts steps vs → AreFew steps ⊎ HasMany steps
few_each [] vs h = inl (λ s c. absurd (none s c))
few_each (s ∷ ss) [] h = absurd h
few_each (s ∷ ss) (v ∷ vs) h = go (nat_lt MAX_FINDINGS (count_of v)) refl (few_each ss vs h.1)
  where
    more : HasMany ss → HasMany (s ∷ ss)
    more m = record { step = m.step; is_step = there m.step s ss m.is_step; verdict = m.verdict; exact = m.exact; many = m.many }

    at_first : (w : Verdict) → nat_lt MAX_FINDINGS (count_of v) ≡ false → IsVerdict s.old s.new w → count_of w ≤ MAX_FINDINGS
    at_first w e k = subst (λ (x : Verdict). count_of x ≤ MAX_FINDINGS) (verdict_is_one s.old s.new v w h.0 k) (ltb-false MAX_FINDINGS (count_of v) e)

    at_step : nat_lt MAX_FINDINGS (count_of v) ≡ false → AreFew ss → (t : Step) → (s ≡ t) ⊎ Contains ss t → (w : Verdict) → IsVerdict t.old t.new w → count_of w ≤ MAX_FINDINGS
    at_step e few t (inl is) w k = at_first w e (subst (λ (x : Step). IsVerdict x.old x.new w) (sym is) k)
    at_step e few t (inr c) w k = few t c w k

    go : (b : Bool) → nat_lt MAX_FINDINGS (count_of v) ≡ b → AreFew ss ⊎ HasMany ss → AreFew (s ∷ ss) ⊎ HasMany (s ∷ ss)
    go true e rest = inr (record { step = s; is_step = here s ss; verdict = v; exact = h.0; many = ltb-true MAX_FINDINGS (count_of v) e })
    go false e (inl few) = inl (λ t c. at_step e few t (cases s ss t c))
    go false e (inr m) = inr (more m)

pub few_or_many : (platform : List ClassFacts) (releases : List (List ClassFacts)) → mismatch_of_row platform releases ≡ None → (vs : List Verdict) → AreVerdicts (steps_of (row_of platform releases)) vs
    → IsFitRow platform releases ⊎ ((stop : Stop) × IsUnfitRow platform releases stop)
few_or_many platform releases fits vs are = go (few_each (steps_of (row_of platform releases)) vs are)
  where
    go : AreFew (steps_of (row_of platform releases)) ⊎ HasMany (steps_of (row_of platform releases)) → IsFitRow platform releases ⊎ ((stop : Stop) × IsUnfitRow platform releases stop)
    go (inl few) = inl (record { fits = fits; few = few })
    go (inr m) = inr ((stops.TooMany parts.Findings), inr (refl, record { fits = fits; step = m.step; is_step = m.is_step; verdict = m.verdict; exact = m.exact; many = m.many }))

-- ---- the sides of a step

-- a step is between releases of the row
record IsBetween (platform : List ClassFacts) (releases : List (List ClassFacts)) (s : Step) : Type 0 where
  old : List ClassFacts
  new : List ClassFacts
  old_in : Contains releases old
  new_in : Contains releases new
  step : s ≡ record { old = side platform old; new = side platform new }

between_from : (platform first : List ClassFacts) (later : List (List ClassFacts)) (s : Step) → Contains (steps_from (side platform first) (row_of platform later)) s → IsBetween platform (first ∷ later) s
between_from platform first [] s c = absurd (none s c)
between_from platform first (n ∷ later) s c =
    go (cases (record { old = side platform first; new = side platform n }) (steps_from (side platform n) (row_of platform later)) s c) (λ k. between_from platform n later s k)
  where
    go : (record { old = side platform first; new = side platform n } ≡ s) ⊎ Contains (steps_from (side platform n) (row_of platform later)) s
        → (Contains (steps_from (side platform n) (row_of platform later)) s → IsBetween platform (n ∷ later) s) → IsBetween platform (first ∷ n ∷ later) s
    go (inl is) further = record { old = first; new = n; old_in = here first (n ∷ later); new_in = there n first (n ∷ later) (here n later); step = sym is }
    go (inr k) further =
        let b : IsBetween platform (n ∷ later) s = further k in
        record { old = b.old; new = b.new; old_in = there b.old first (n ∷ later) b.old_in; new_in = there b.new first (n ∷ later) b.new_in; step = b.step }

between : (platform : List ClassFacts) (releases : List (List ClassFacts)) (s : Step) → Contains (steps_of (row_of platform releases)) s → IsBetween platform releases s
between platform [] s c = absurd (none s c)
between platform (first ∷ later) s c = between_from platform first later s c

-- each step of a row of valid releases has a verdict
pub step_verdict : (platform : List ClassFacts) (releases : List (List ClassFacts)) (s : Step) → HasRoot platform → All IsValidClass platform → ((r : List ClassFacts) → Contains releases r → All IsValidClass r)
    → Contains (steps_of (row_of platform releases)) s → (v : Verdict) × IsVerdict s.old s.new v
step_verdict platform releases s root vp valid c =
    let b = between platform releases s c in
    let v = some_verdict (side platform b.old) (side platform b.new) (plain_pair platform b.old b.new root vp (valid b.old b.old_in) (valid b.new b.new_in)) in
    (v.0, subst (λ (x : Step). IsVerdict x.old x.new v.0) (sym b.step) v.1)
