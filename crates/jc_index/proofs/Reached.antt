-- A test on the classes that interfaces lead to, by their numbers.
use Rattle.std.proofs.Common.{◌≡◌, ◌<◌, ℕ, zero, suc, Bool, true, false, ◌||◌, ◌==◌, List, [], ◌∷◌, refl, sym, ◌∙◌, ap, subst, Option, Some, None}
use Rattle.std.specs.Prelude.{is_some}
use Rattle.std.specs.List.{Any, list_any}
use Rattle.std.proofs.lemmas.Bool.{eqb-true, eq-eqb, or_left, or_right}
use Rattle.std.proofs.lemmas.List.Folds.{Any-from_list_any}
use Rattle.std.proofs.lemmas.List.Elements.{All-contains}
use Rattle.std.specs.Cmp.{both_ways}
use Rattle.jc_facts.specs.declared.class_facts.ClassFacts.{ClassFacts}
use Rattle.jc_facts.specs.Names.{Bytes, same}
use Rattle.jc_facts.specs.Options.{some_and}
use Rattle.jc_facts.specs.world.World.{World, find_class, size}
use Rattle.jc_facts.specs.world.Search.{descend}
use Rattle.jc_facts.specs.world.Hierarchy.{each, interfaces_step, with_interfaces, names_in}
use Rattle.jc_facts.proofs.Same.{same_is, same_itself}
use Rattle.jc_lemmas.proofs.Listed.{EachOf, each_in, any_has, each_of}
use Rattle.jc_facts.proofs.Hierarchy.{each-all, any_each}
use Rattle.jc_worlds.proofs.Descent.{descend-absent, descend-none_left, descend-found}
use Rattle.jc_facts.proofs.World.{IsOf, find-name}
use Rattle.jc_index.specs.Ids.{name_at}
use Rattle.jc_index.specs.Above.{leads_to, leads_by, AreAbove}
use Rattle.jc_index.proofs.Numbers.{id_of-Some, number_of}

any_at : (q : ℕ → Bool) (ids : List ℕ) (k : ℕ) → list_any (λ n. n == k) ids ≡ true → q k ≡ true → list_any q ids ≡ true
any_at q [] k h e = absurd (let c : false ≡ true = h in cc)
any_at q (n ∷ ids) k h e = go (n == k) refl h (any_at q ids k)
  where
    go : (b : Bool) → (n == k) ≡ b → (b || list_any (λ m. m == k) ids) ≡ true → (list_any (λ m. m == k) ids ≡ true → q k ≡ true → list_any q ids ≡ true) → (q n || list_any q ids) ≡ true
    go true i h r = or_left (q n) (list_any q ids) (ap q (eqb-true n k i) ∙ e)
    go false i h r = or_right (q n) (list_any q ids) (r h e)

-- the world has each class that interfaces lead to under its name
pub reached_of : (W : World) (n : ℕ) (x : Bytes) → EachOf (IsOf W) (descend W [] [] interfaces_step n x)
unfolding interfaces_step
reached_of W zero x = start (find_class W x) refl
  where
    start : (o : Option ClassFacts) → find_class W x ≡ o → EachOf (IsOf W) (descend W [] [] interfaces_step zero x)
    start None e = subst (EachOf (IsOf W)) (sym (descend-absent W [] [] interfaces_step zero x e)) tt
    start (Some c) e = subst (EachOf (IsOf W)) (sym (descend-none_left W [] [] interfaces_step x c e)) tt
reached_of W (suc n) x = go (find_class W x) refl (reached_of W n)
  where
    go : (o : Option ClassFacts) → find_class W x ≡ o → ((y : Bytes) → EachOf (IsOf W) (descend W [] [] interfaces_step n y)) → EachOf (IsOf W) (descend W [] [] interfaces_step (suc n) x)
    go None e more = subst (EachOf (IsOf W)) (sym (descend-absent W [] [] interfaces_step (suc n) x e)) tt
    go (Some c) e more =
        subst (EachOf (IsOf W)) (sym (descend-found W [] [] interfaces_step n x c e))
        (ap (find_class W) (find-name W x c e) ∙ e, each-all (IsOf W) (descend W [] [] interfaces_step n) c.interfaces (each_of (λ y. EachOf (IsOf W) (descend W [] [] interfaces_step n y)) more c.interfaces))

module _ (W : World) (p : ClassFacts → Bool) (x : Bytes) (c : ClassFacts) (f : find_class W x ≡ Some c) (ids : List ℕ) (a : AreAbove W x ids) where
  reached : List ClassFacts
  reached = each (with_interfaces W) c.interfaces

  leads : (y : Bytes) → leads_by W x y ≡ names_in reached y
  unfolding reached
  leads y = ap (some_and (λ d. leads_to W d y)) f ∙ sym (any_each (λ d. same d.name y) (with_interfaces W) c.interfaces)

  all_of : EachOf (IsOf W) reached
  unfolding reached with_interfaces
  all_of = each-all (IsOf W) (with_interfaces W) c.interfaces (each_of (λ y. EachOf (IsOf W) (with_interfaces W y)) (reached_of W (size W)) c.interfaces)

  passes : ℕ → Bool
  passes n = some_and p (find_class W (name_at W n))

  to : Any (λ d. p d ≡ true) reached → list_any passes ids ≡ true
  unfolding passes
  to b =
      let i : find_class W b.1.name ≡ Some b.1 = each_in (IsOf W) reached b.1 all_of (b.0, b.2, b.3) in
      let n = number_of W b.1.name (ap is_some i) in
      let s = id_of-Some W b.1.name n.0 n.1 in
      any_at passes ids n.0
      (a.exact n.0 s.0 ∙ leads (name_at W n.0) ∙ any_has (λ d. same d.name (name_at W n.0)) reached b.1 (b.0, b.2, b.3) (ap (same b.1.name) s.1 ∙ same_itself b.1.name))
      (ap (some_and p) (ap (find_class W) s.1 ∙ i) ∙ b.4)

  from : Any (λ n. passes n ≡ true) ids → list_any p reached ≡ true
  unfolding passes
  from b =
      let l : b.1 < size W = All-contains (λ k. k < size W) ids b.1 a.within (b.0, b.2, b.3) in
      let t : leads_by W x (name_at W b.1) ≡ true = sym (a.exact b.1 l) ∙ any_has (λ m. m == b.1) ids b.1 (b.0, b.2, b.3) (eq-eqb b.1 b.1 refl) in
      by (Any-from_list_any (λ d. same d.name (name_at W b.1)) reached (sym (leads (name_at W b.1)) ∙ t))
    where
      by : Any (λ d. same d.name (name_at W b.1) ≡ true) reached → list_any p reached ≡ true
      by g =
          let i : find_class W g.1.name ≡ Some g.1 = each_in (IsOf W) reached g.1 all_of (g.0, g.2, g.3) in
          let e : g.1.name ≡ name_at W b.1 = same_is g.1.name (name_at W b.1) g.4 in
          any_has p reached g.1 (g.0, g.2, g.3) (sym (ap (some_and p) (ap (find_class W) (sym e) ∙ i)) ∙ b.4)

  pub any_reached : list_any p (each (with_interfaces W) c.interfaces) ≡ list_any (λ n. some_and p (find_class W (name_at W n))) ids
  unfolding reached passes
  any_reached = both_ways (list_any p reached) (list_any passes ids) (λ e. to (Any-from_list_any p reached e)) (λ e. from (Any-from_list_any passes ids e))
