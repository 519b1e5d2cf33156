-- The names that a class permits, by its seal.
use Rattle.std.proofs.Common.{◌≡◌, ℕ, List, [], ◌∷◌, ◌++◌, Option, Some, sym, ◌∙◌, ap, subst}
use Rattle.std.specs.List.{Contains}
use Rattle.std.specs.List.Sorted.{IsPermutation}
use Rattle.std.proofs.lemmas.List.Elements.{All-push, All-contains}
use Rattle.std.proofs.lemmas.List.Sorted.{list_any-IsPermutation}
use Rattle.jc_facts.specs.declared.class_facts.ClassFacts.{ClassFacts}
use Rattle.jc_facts.specs.Names.{Bytes, same, is_name_among}
use Rattle.jc_facts.specs.world.Mentioned.{permitted}
use Rattle.jc_facts.specs.world.World.{World, find_class}
use Rattle.jc_index.specs.Ids.{name_at}
use Rattle.jc_index.specs.steps.Seals.{IsSeal, AreSeals}
use Rattle.jc_index.specs.declared.seals.Seal.{Seal}

-- a name has one class
one-class : (o : Option ClassFacts) (c d : ClassFacts) → Some c ≡ o → Some d ≡ o → c ≡ d
one-class o c d e f = let same : Some c ≡ Some d = e ∙ sym f in cc

-- one more
pub one-more : (W : World) (seals : List Seal) (seal : Seal) (c : ClassFacts) (names : List Bytes) → AreSeals W seals → Some c ≡ find_class W (name_at W seal.owner)
    → names ≡ permitted c.permits → IsPermutation names seal.names → AreSeals W (seals ++ seal ∷ [])
one-more W seals seal c names are found is p = All-push (IsSeal W) seals seal are new
  where
    new : IsSeal W seal
    new d e = subst (λ (ns : List Bytes). IsPermutation ns seal.names) (is ∙ ap (λ (x : ClassFacts). permitted x.permits) (one-class _ c d found e)) p

-- a seal of the class has what the class permits
pub by-seal : (W : World) (seals : List Seal) (seal : Seal) (n : ℕ) (c : ClassFacts) (x : Bytes) → Contains seals seal → seal.owner ≡ n → AreSeals W seals
    → Some c ≡ find_class W (name_at W n) → is_name_among seal.names x ≡ is_name_among (permitted c.permits) x
by-seal W seals seal n c x among is are found =
    let p : IsPermutation (permitted c.permits) seal.names =
    All-contains (IsSeal W) seals seal are among c (subst (λ (k : ℕ). Some c ≡ find_class W (name_at W k)) (sym is) found)
    in
    sym (list_any-IsPermutation (λ y. same y x) (permitted c.permits) seal.names p)
