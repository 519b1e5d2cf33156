-- The bases by their numbers.
use Rattle.std.proofs.Common.{◌≡◌, ◌<◌, ℕ, List, [], ◌∷◌, map, refl, sym, ◌∙◌, ap, subst}
use Rattle.std.proofs.lemmas.List.Elements.{recursion_from_All, All-from_recursion}
use Rattle.jc_facts.specs.world.World.{size}
use Rattle.jc_lemmas.proofs.Listed.{EachOf}
use Rattle.jc_index.specs.Ids.{name_at}
use Rattle.jc_sides.specs.SharedOf.{SharedOf, IsShared, AreThose, name_of}
use Rattle.jc_sides.specs.SidesOf.{SidesOf}
use Rattle.jc_promises.specs.rule.Warnings.{is_base}
use Rattle.jc_rules.specs.Bases.{AreBases}

-- ---- numbers

numbered : (s : SidesOf) (bs : List SharedOf) → EachOf (IsShared s) bs → map (name_at s.old) (map (λ (b : SharedOf). b.old) bs) ≡ map name_of bs
numbered s [] h = refl
numbered s (b ∷ bs) h = ap (λ x. x ∷ map (name_at s.old) (map (λ (b : SharedOf). b.old) bs)) h.0.old_name ∙ ap (λ xs. name_of b ∷ xs) (numbered s bs h.1)

within : (s : SidesOf) (bs : List SharedOf) → EachOf (IsShared s) bs → EachOf (λ n. n < size s.old) (map (λ (b : SharedOf). b.old) bs)
within s [] h = tt
within s (b ∷ bs) h = (h.0.old_below, within s bs h.1)

pub are_bases : (s : SidesOf) (bs : List SharedOf) (ids : List ℕ) → AreThose (is_base s.old s.new) s bs → ids ≡ map (λ (b : SharedOf). b.old) bs → AreBases s.old s.new ids
are_bases s bs ids h e =
    let each : EachOf (IsShared s) bs = recursion_from_All (IsShared s) bs h.shared in
    record {
      within = All-from_recursion (λ n. n < size s.old) ids (subst (EachOf (λ n. n < size s.old)) (sym e) (within s bs each));
      all = ap (map (name_at s.old)) e ∙ numbered s bs each ∙ h.all;
    }
