-- What stands further up stands above each class that loads and is below.
use Rattle.std.proofs.Common.{◌≡◌, ℕ, true, List, sym, ◌∙◌, subst, Option, Some, None, ◌⊎◌, inl, inr}
use Rattle.std.proofs.lemmas.Bool.{or_cases, or_right}
use Rattle.jc_facts.specs.declared.class_facts.ClassFacts.{ClassFacts}
use Rattle.jc_facts.specs.Names.{Bytes, same, object_name}
use Rattle.jc_facts.specs.Options.{and_then}
use Rattle.jc_facts.specs.world.World.{World, find_class}
use Rattle.jc_facts.specs.world.Search.{supers, supers_of}
use Rattle.jc_facts.specs.world.Hierarchy.{in_chain}
use Rattle.jc_facts.specs.world.Loading.{load_fault}
use Rattle.jc_lemmas.proofs.Listed.{EachOf}
use Rattle.jc_facts.proofs.Same.{same_is}
use Rattle.jc_facts.proofs.World.{find-name}
use Rattle.jc_worlds.proofs.Bare.{has_root}
use Rattle.jc_worlds.proofs.Loaded.{loads-parts, loads-induction}
use Rattle.jc_worlds.proofs.Unrolled.{above, in_chain-step, own_chain}
use Rattle.jc_index.specs.Ids.{id_of, name_at, superclass_of}
use Rattle.jc_index.specs.Sides.{IsSide}
use Rattle.jc_index.proofs.Numbers.{id_of-Some}
use Rattle.jc_index.proofs.Sides.{side_valid}
use Rattle.jc_index.proofs.Walking.{super-of}
use Rattle.jc_acts.specs.steps.Commons.{covers, IsWider}

-- where the class y leads to z, so does each class in whose chain y is
module _ (W : World) (y z : Bytes) (at : (d : ClassFacts) → find_class W y ≡ Some d → load_fault W y ≡ None → in_chain W y z ≡ true) where
  up : (o : Option Bytes) (is : List Bytes) → EachOf (λ t. in_chain W t y ≡ true → in_chain W t z ≡ true) (supers_of o is) → above (λ s. in_chain W s y) o ≡ true → above (λ s. in_chain W s z) o ≡ true
  up None is r p = absurd (cc)
  up (Some s) is r p = r.0 p

  by : (t : Bytes) (d : ClassFacts) → find_class W t ≡ Some d → load_fault W t ≡ None → EachOf (λ t. in_chain W t y ≡ true → in_chain W t z ≡ true) (supers d) → (same d.name y ≡ true) ⊎ (above (λ s. in_chain W s y) d.superclass ≡ true) → in_chain W t z ≡ true
  by t d f l r (inl p) =
      let e : t ≡ y = sym (find-name W t d f) ∙ same_is d.name y p in
      subst (λ (s : Bytes). in_chain W s z ≡ true) (sym e) (at d (subst (λ (s : Bytes). find_class W s ≡ Some d) e f) (subst (λ (s : Bytes). load_fault W s ≡ None) e l))
  by t d f l r (inr p) = in_chain-step W t z d l f ∙ or_right (same d.name z) (above (λ s. in_chain W s z) d.superclass) (up d.superclass d.interfaces r p)

  pub wider_by : IsWider W y z
  wider_by = loads-induction W (λ t. in_chain W t y ≡ true → in_chain W t z ≡ true) (λ t d f l r i. by t d f l r (or_cases (same d.name y) (above (λ s. in_chain W s y) d.superclass) (sym (in_chain-step W t y d l f) ∙ i)))

-- a class in the chain
pub through : (W : World) (y z : Bytes) → in_chain W y z ≡ true → IsWider W y z
through W y z h = wider_by W y z (λ d f l. h)

-- the superclass
pub super_wider : (W : World) (y : Bytes) (n : ℕ) → superclass_of W y ≡ Some n → IsWider W y (name_at W n)
unfolding and_then
super_wider W y n e = wider_by W y (name_at W n) (λ d f l.
    in_chain-step W y (name_at W n) d l f
    ∙ or_right (same d.name (name_at W n)) (above (λ s. in_chain W s (name_at W n)) d.superclass) (at d.superclass d.interfaces (loads-parts W y d f l).0 (sym (super-of W y d f) ∙ e)))
  where
    at : (o : Option Bytes) (is : List Bytes) → EachOf (λ s. load_fault W s ≡ None) (supers_of o is) → and_then (id_of W) o ≡ Some n → above (λ s. in_chain W s (name_at W n)) o ≡ true
    at None is l k = absurd (cc)
    at (Some s) is l k = subst (λ (t : Bytes). in_chain W s t ≡ true) (sym (id_of-Some W s n k).1) (own_chain W s l.0)

-- one after the other
pub wider_on : (W : World) (x y z : Bytes) → IsWider W x y → IsWider W y z → IsWider W x z
wider_on W x y z f g = λ b l h. g b l (f b l h)

-- the root of all
pub root_wider : (W : World) → IsSide W → (x : Bytes) (n : ℕ) → name_at W n ≡ object_name → IsWider W x (name_at W n)
root_wider W s x n e = λ b l h. subst (λ (t : Bytes). in_chain W b t ≡ true) (sym e) (has_root W (side_valid W s) b l)

-- what is kept above a class in the chain
pub covers_through : (W : World) (o : Option ℕ) (y b : Bytes) → load_fault W b ≡ None → in_chain W b y ≡ true → covers W o y ≡ true → covers W o b ≡ true
covers_through W None y b l i h = absurd (cc)
covers_through W (Some n) y b l i h = through W y (name_at W n) h b l i
