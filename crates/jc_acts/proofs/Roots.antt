-- The root of a side.
use Rattle.std.proofs.Common.{◌≡◌, ℕ, true, false, [], ◌∷◌, sym, ◌∙◌, ap, subst, Option, Some, is_some, ◌⊎◌, inl, inr}
use Rattle.std.proofs.lemmas.Bool.{or_cases}
use Rattle.jc_facts.specs.Names.{Bytes, same, object_name}
use Rattle.jc_facts.specs.world.Hierarchy.{names_in, in_chain}
use Rattle.jc_facts.specs.world.World.{World}
use Rattle.jc_facts.proofs.World.{find-name}
use Rattle.jc_facts.proofs.Same.{same_is}
use Rattle.jc_worlds.proofs.Bare.{bare_chain}
use Rattle.jc_index.specs.Ids.{id_of, name_at}
use Rattle.jc_index.specs.Sides.{IsSide}
use Rattle.jc_index.proofs.Sides.{root_at}
use Rattle.jc_index.proofs.Numbers.{id-find, id_of-Some}

-- nothing but itself stands above the root
pub only_root : (W : World) → IsSide W → (y : Bytes) → in_chain W object_name y ≡ true → y ≡ object_name
only_root W s y h = sym (go (or_cases (same s.root.root.name y) false p)) ∙ find-name W object_name s.root.root (root_at W s)
  where
    p : names_in (s.root.root ∷ []) y ≡ true
    p = subst (λ cs. names_in cs y ≡ true) (bare_chain W object_name s.root.root (root_at W s) s.root.superclass s.root.interfaces) h

    go : (same s.root.root.name y ≡ true) ⊎ (false ≡ true) → s.root.root.name ≡ y
    go (inl q) = same_is s.root.root.name y q
    go (inr q) = absurd (cc)

pub rooted : (W : World) → IsSide W → (x : Bytes) → x ≡ object_name → (o : Option ℕ) → o ≡ id_of W x → is_some o ≡ true
rooted W s x e o h = ap is_some (h ∙ ap (id_of W) e) ∙ id-find W object_name ∙ ap is_some (root_at W s)

pub root_name : (W : World) (x : Bytes) (n : ℕ) → x ≡ object_name → id_of W x ≡ Some n → name_at W n ≡ object_name
root_name W x n e h = (id_of-Some W x n h).1 ∙ e
