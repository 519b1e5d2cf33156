-- The lengths of the names of wanted classes, as they are marked.
use Rattle.std.proofs.Common.{◌≡◌, ◌<◌, ◌≤◌, ◌+◌, ◌⊎◌, inl, inr, ℕ, arith, Bool, true, false, List, [], length, refl, sym, ◌∙◌, ap}
use Rattle.std.specs.Str.{bytes_eq}
use Rattle.std.proofs.lemmas.Bool.{cases_lt}
use Rattle.jc_lemmas.proofs.Bools.{contradicts}
use Rattle.jc_facts.specs.Names.{Bytes}
use Rattle.jc_facts.proofs.Same.{same_is}
use Rattle.jc_facts.specs.world.World.{World, size}
use Rattle.jc_index.specs.Ids.{name_at}
use Rattle.jc_acts.specs.Touched.{flag_at}
use Rattle.jc_exposed.specs.Lengths.{may_be, HaveLengths, Keeps}
use Rattle.jc_exposed.specs.Named.{Lists}

-- one more class
pub lengths_next : (W : World) (wanted before after : List Bool) (n id : ℕ) → id ≡ n → Keeps before after → (flag_at wanted id ≡ true → may_be after (length (name_at W id)) ≡ true)
    → HaveLengths W wanted n before → HaveLengths W wanted (n + 1) after
lengths_next W wanted before after n id i kept marked h t l o = step (cases_lt t n)
  where
    step : (t < n) ⊎ (n ≤ t) → may_be after (length (name_at W t)) ≡ true
    step (inl m) = kept (length (name_at W t)) (h t m o)
    step (inr m) =
        let q : t ≡ id = omega (arith, i, l, m) in
        ap (λ k. may_be after (length (name_at W k))) q ∙ marked (ap (flag_at wanted) (sym q) ∙ o)

-- a name that isn't as long as that of a wanted class is none's
pub not_long : (W : World) (wanted lengths : List Bool) (name : Bytes) → HaveLengths W wanted (size W) lengths → may_be lengths (length name) ≡ false → Lists W (flag_at wanted) (λ x. bytes_eq name x) []
not_long W wanted lengths name h e = record { exact = λ t l o. never t l o (bytes_eq name (name_at W t)) refl }
  where
    never : (t : ℕ) → t < size W → flag_at wanted t ≡ true → (b : Bool) → bytes_eq name (name_at W t) ≡ b → false ≡ b
    never t l o false q = refl
    never t l o true q = absurd (contradicts (may_be lengths (length name)) (ap (λ (x : Bytes). may_be lengths (length x)) (same_is name (name_at W t) q) ∙ h t l o) e)
