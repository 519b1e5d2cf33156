-- Flags that are set for other parts of a report too, and of which classes members are kept then.
use Rattle.std.proofs.Common.{◌≡◌, ◌<◌, ◌≤◌, ◌+◌, ◌⊎◌, inl, inr, ℕ, arith, Bool, true, List, length, refl, sym, ◌∙◌, ap, subst}
use Rattle.std.proofs.lemmas.Bool.{cases_lt}
use Rattle.jc_acts.specs.Touched.{AreFlags, flag_at}
use Rattle.jc_exposed.specs.declared.exposed.Exposed.{Exposed}
use Rattle.jc_exposed.specs.Exposed.{AreWanted, wanted_of}
use Rattle.jc_exposed.proofs.OwnNamings.{flag_inside}
use Rattle.jc_rules.specs.steps.Losses.{AreJoined, matters}
use Rattle.jc_sides.specs.SidesOf.{SidesOf}
use Rattle.jc_index.specs.Ids.{name_at}

-- ---- one flag after the other

pub joined_none : (before others : List Bool) → AreJoined before others 0 before
joined_none before others = record { count = refl; kept = λ k h. h; joined = λ k l i h. absurd (omega (arith, l)) }

pub joined_next : (before others flags after : List Bool) (n : ℕ) → length after ≡ length flags → ((k : ℕ) → flag_at flags k ≡ true → flag_at after k ≡ true) → (flag_at others n ≡ true → n < length flags → flag_at after n ≡ true)
    → AreJoined before others n flags → AreJoined before others (n + 1) after
joined_next before others flags after n e kept set h = record { count = e ∙ h.count; kept = λ k t. kept k (h.kept k t); joined = λ k l i t. step k l i t (cases_lt k n) }
  where
    step : (k : ℕ) → k < n + 1 → k < length before → flag_at others k ≡ true → (k < n) ⊎ (n ≤ k) → flag_at after k ≡ true
    step k l i t (inl m) = kept k (h.joined k m i t)
    step k l i t (inr m) =
        let q : k ≡ n = omega (arith, l, m) in
        let o : flag_at others n ≡ true = subst (λ j. flag_at others j ≡ true) q t in
        subst (λ j. flag_at after j ≡ true) (sym q) (set o (omega (arith, q, i, h.count)))

-- ---- of which classes members are kept

module _ (s : SidesOf) (before others after : List Bool) (e : Exposed) (all : AreJoined before others (length others) after) (w : wanted_of e ≡ after) (f : AreFlags s.old (matters s) before) where
  pub matter_wanted : AreWanted s (λ n. matters s (name_at s.old n)) e
  matter_wanted = λ n l h. ap (λ fs. flag_at fs n) w ∙ all.kept n (f.each n l ∙ h)

  pub others_wanted : AreWanted s (flag_at others) e
  others_wanted = λ n l h. ap (λ fs. flag_at fs n) w ∙ all.joined n (flag_inside others n h) (omega (arith, f.count, l)) h
