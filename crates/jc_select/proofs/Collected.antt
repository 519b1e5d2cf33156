-- The interfaces above a class, collected on a walk up its superclasses.
use Rattle.std.proofs.Common.{◌≡◌, ◌<◌, ℕ, suc, Bool, true, false, not, ◌||◌, ◌&&◌, ◌==◌, List, [], ◌∷◌, ◌++◌, refl, sym, ◌∙◌, ap, subst, Option, Some, None, cond}
use Rattle.std.specs.Prelude.{IsTrue, is_some}
use Rattle.std.specs.List.{All, list_any, filter, Contains}
use Rattle.std.proofs.lemmas.Bool.{eqb-true, and_from, and_parts, not-true}
use Rattle.std.proofs.lemmas.List.Folds.{list_any-append}
use Rattle.std.proofs.lemmas.List.Elements.{recursion_from_All, All-from_recursion}
use Rattle.std.specs.Cmp.{both_ways}
use Rattle.std.proofs.Math.Bool.{or-false}
use Rattle.jc_facts.specs.declared.class_facts.ClassFacts.{ClassFacts}
use Rattle.jc_facts.specs.declared.key.Key.{Key}
use Rattle.jc_facts.specs.declared.class_facts.Member.{Member}
use Rattle.jc_facts.specs.Flags.{interface_flag, private_flag, static_flag}
use Rattle.jc_facts.specs.Names.{Bytes, same}
use Rattle.jc_facts.specs.Options.{some_and, and_then}
use Rattle.jc_facts.specs.world.Inheritance.{offers, is_inheritable}
use Rattle.jc_facts.specs.world.Assignment.{is_interface_of}
use Rattle.jc_facts.specs.world.World.{World, size, classes, find_class, own_method_of, differ_by_name}
use Rattle.jc_facts.specs.world.Hierarchy.{chain, each, interfaces_of, is_superinterface, superinterfaces, with_interfaces, names_in}
use Rattle.jc_facts.proofs.Same.{same_is}
use Rattle.jc_facts.proofs.World.{IsOf}
use Rattle.jc_facts.proofs.Hierarchy.{each-all}
use Rattle.jc_lemmas.proofs.Listed.{EachOf, EachOf-append, each_in, any_has, any_passes, in_filter, filter_in, filter-each, each_of}
use Rattle.jc_worlds.proofs.Interfaces.{above_is_one_step}
use Rattle.jc_index.specs.Above.{leads_to, leads_by, AreAbove}
use Rattle.jc_index.proofs.Aboves.{any_up, superinterface-is, any-none_left, any-here, any-top, any-above, same_number}
use Rattle.jc_index.proofs.Numbers.{IsClass, class_at, find-None}
use Rattle.jc_index.specs.declared.ids.Found.{Found}
use Rattle.jc_index.specs.steps.Choosing.{as_found, if_candidate}
use Rattle.jc_index.specs.Ids.{name_at, superclass_of, id_of}
use Rattle.jc_promises.specs.rule.Warnings.{interfaces_from, part, is_below_other}
use Rattle.jc_select.specs.steps.Parts.{AreNamed, offers_at}
use Rattle.jc_index.proofs.Reached.{reached_of}

-- ---- lists of numbers

all_append : (W : World) (xs ys : List ℕ) → All (λ n. n < size W) xs → All (λ n. n < size W) ys → All (λ n. n < size W) (xs ++ ys)
all_append W xs ys a b = All-from_recursion (λ n. n < size W) (xs ++ ys) (EachOf-append (λ n. n < size W) xs ys (recursion_from_All (λ n. n < size W) xs a) (recursion_from_All (λ n. n < size W) ys b))

-- ---- the walk

-- what was collected, and what is led to from there up, are the superinterfaces of x
pub record IsCollecting (W : World) (x : Bytes) (left at : ℕ) (ids : List ℕ) : Type 0 where
  pub here : at < size W
  pub within : All (λ n. n < size W) ids
  pub sum : (n : ℕ) → n < size W → (list_any (λ i. i == n) ids || any_up W left (name_at W at) (name_at W n)) ≡ is_superinterface W x (name_at W n)

pub starts : (W : World) (a m : ℕ) (ids : List ℕ) → a < size W → m ≡ size W → ids ≡ [] → IsCollecting W (name_at W a) m a ids
starts W a m ids l e z = record {
  here = l;
  within = subst (All (λ n. n < size W)) (sym z) (All-from_recursion (λ n. n < size W) [] tt);
  sum = λ n b. ap (λ (is : List ℕ). list_any (λ i. i == n) is || any_up W m (name_at W a) (name_at W n)) z ∙ ap (λ j. any_up W j (name_at W a) (name_at W n)) e ∙ sym (superinterface-is W (name_at W a) (name_at W n));
}

moved : (a l u v s : Bool) → (a || u) ≡ s → (l ≡ true → u ≡ true) → (l ≡ false → u ≡ v) → ((a || l) || v) ≡ s
moved true l u v s e t f = e
moved false true u v s e t f = sym (t refl) ∙ e
moved false false u v s e t f = sym (f refl) ∙ e

dropped : (a l : Bool) → ((a || l) || false) ≡ (a || l)
dropped true l = refl
dropped false true = refl
dropped false false = refl

module _ (W : World) (d : IsTrue (differ_by_name (classes W))) (x : Bytes) (m a : ℕ) (ids : List ℕ) (h : IsCollecting W x m a ids) where
  module _ (more all : List ℕ) (up : AreAbove W (name_at W a) more) (is : all ≡ ids ++ more) (l : 0 < m) where
    both_within : All (λ n. n < size W) all
    both_within = subst (All (λ n. n < size W)) (sym is) (all_append W ids more h.within up.within)

    both : (n : ℕ) → n < size W → list_any (λ i. i == n) all ≡ (list_any (λ i. i == n) ids || leads_by W (name_at W a) (name_at W n))
    both n b = ap (list_any (λ i. i == n)) is ∙ list_any-append (λ i. i == n) ids more ∙ ap (λ t. list_any (λ i. i == n) ids || t) (up.exact n b)

    -- those of the class are added
    next : (n : ℕ) → n < size W → (v : Bool) → (leads_by W (name_at W a) (name_at W n) ≡ false → any_up W m (name_at W a) (name_at W n) ≡ v) → (list_any (λ i. i == n) all || v) ≡ is_superinterface W x (name_at W n)
    next n b v f =
        ap (λ t. t || v) (both n b)
        ∙ moved (list_any (λ i. i == n) ids) (leads_by W (name_at W a) (name_at W n)) (any_up W m (name_at W a) (name_at W n)) v (is_superinterface W x (name_at W n)) (h.sum n b) (any-here W d a h.here (name_at W n) m l) f

    pub goes_on : (n t : ℕ) → suc n ≡ m → Some t ≡ superclass_of W (name_at W a) → t < size W → IsCollecting W x n t all
    goes_on n t e u i = record {
      here = i;
      within = both_within;
      sum = λ j b. next j b (any_up W n (name_at W t) (name_at W j)) (λ q. any-above W d a h.here (name_at W j) m n t e q u);
    }

    pub at_top : None ≡ superclass_of W (name_at W a) → AreNamed W (superinterfaces W x) all
    at_top u = record {
      within = both_within;
      exact = λ n b. both n b ∙ sym (dropped (list_any (λ i. i == n) ids) (leads_by W (name_at W a) (name_at W n)))
          ∙ ap (λ t. t || false) (sym (both n b)) ∙ next n b false (λ q. any-top W d a h.here (name_at W n) m l q u);
    }

  pub at_end : m ≡ 0 → AreNamed W (superinterfaces W x) ids
  at_end e = record {
    within = h.within;
    exact = λ n b.
        sym (or-false (list_any (λ i. i == n) ids))
        ∙ ap (λ t. list_any (λ i. i == n) ids || t) (sym (ap (λ j. any_up W j (name_at W a) (name_at W n)) e ∙ any-none_left W d a h.here (name_at W n)))
        ∙ h.sum n b;
  }

-- ---- an interface and those above it

pub with_itself : (W : World) → IsTrue (differ_by_name (classes W)) → (a : ℕ) → a < size W → (more all : List ℕ) → AreAbove W (name_at W a) more → all ≡ (a ∷ []) ++ more → AreNamed W (with_interfaces W (name_at W a)) all
with_itself W d a l more all up is = record {
  within = subst (All (λ n. n < size W)) (sym is) (All-from_recursion (λ n. n < size W) (a ∷ more) (l, recursion_from_All (λ n. n < size W) more up.within));
  exact = exact;
}
  where
    k : IsClass W (name_at W a)
    k = class_at W a d l

    exact : (n : ℕ) → n < size W → list_any (λ i. i == n) all ≡ names_in (with_interfaces W (name_at W a)) (name_at W n)
    exact n b =
        ap (list_any (λ i. i == n)) is
        ∙ ap (λ t. t || list_any (λ i. i == n) more) (sym (same_number W d a n l b))
        ∙ ap (λ t. same (name_at W a) (name_at W n) || t) (up.exact n b ∙ ap (some_and (λ c. leads_to W c (name_at W n))) k.found)
        ∙ ap (λ z. same z (name_at W n) || leads_to W k.facts (name_at W n)) (sym k.name)
        ∙ sym (above_is_one_step W (name_at W a) (name_at W n) k.facts k.found).1

module _ (W : World) (x : Bytes) (c : ClassFacts) (b : Bool) (ids : List ℕ) (f : Some c ≡ find_class W x) (e : b ≡ interface_flag c.flags) where
  flag : is_interface_of W x ≡ b
  flag = ap (some_and (λ (c : ClassFacts). interface_flag c.flags)) (sym f) ∙ sym e

  pub from_interface : b ≡ true → AreNamed W (with_interfaces W x) ids → AreNamed W (interfaces_from W x) ids
  unfolding interfaces_from
  from_interface t h = subst (λ q. AreNamed W (cond q (with_interfaces W x) (superinterfaces W x)) ids) (sym (flag ∙ t)) h

  pub from_class : b ≡ false → AreNamed W (superinterfaces W x) ids → AreNamed W (interfaces_from W x) ids
  unfolding interfaces_from
  from_class t h = subst (λ q. AreNamed W (cond q (with_interfaces W x) (superinterfaces W x)) ids) (sym (flag ∙ t)) h

-- ---- those that offer a key

offered : (p s : Bool) (n f : ℕ) → is_some {T = Found} (cond (p || s) None (Some (record { owner = n; flags = f }))) ≡ (not s && not p)
offered true true n f = refl
offered true false n f = refl
offered false true n f = refl
offered false false n f = refl

pub offers_is : (W : World) (k : Key) (n : ℕ) (c : ClassFacts) → find_class W (name_at W n) ≡ Some c → offers_at W k n ≡ offers k c
unfolding and_then
offers_is W k n c f = ap (λ (o : Option ClassFacts). is_some (if_candidate (as_found n (and_then (λ c. own_method_of c k) o)))) f ∙ go (own_method_of c k)
  where
    go : (o : Option Member) → is_some (if_candidate (as_found n o)) ≡ some_and is_inheritable o
    go None = refl
    go (Some m) = offered (private_flag m.flags) (static_flag m.flags) n m.flags

pub filtered_number : (p : ℕ → Bool) (ids : List ℕ) (n : ℕ) → list_any (λ i. i == n) (filter p ids) ≡ (p n && list_any (λ i. i == n) ids)
filtered_number p ids n = both_ways (list_any (λ i. i == n) (filter p ids)) (p n && list_any (λ i. i == n) ids) there back
  where
    there : list_any (λ i. i == n) (filter p ids) ≡ true → (p n && list_any (λ i. i == n) ids) ≡ true
    there h =
        let q = any_passes (λ i. i == n) (filter p ids) h in
        let f = in_filter p ids q.one q.is_in in
        and_from (p n) (list_any (λ i. i == n) ids) (subst (λ i. p i ≡ true) (eqb-true q.one n q.passes) f.1) (any_has (λ i. i == n) ids q.one f.0 q.passes)

    back : (p n && list_any (λ i. i == n) ids) ≡ true → list_any (λ i. i == n) (filter p ids) ≡ true
    back h =
        let b = and_parts (p n) (list_any (λ i. i == n) ids) h in
        let q = any_passes (λ i. i == n) ids b.1 in
        any_has (λ i. i == n) (filter p ids) q.one (filter_in p ids q.one q.is_in (subst (λ i. p i ≡ true) (sym (eqb-true q.one n q.passes)) b.0)) q.passes

filtered_name : (W : World) (k : Key) (cs : List ClassFacts) → EachOf (IsOf W) cs → (y : Bytes) (c : ClassFacts) → find_class W y ≡ Some c → names_in (filter (offers k) cs) y ≡ (offers k c && names_in cs y)
filtered_name W k cs g y c f = both_ways (names_in (filter (offers k) cs) y) (offers k c && names_in cs y) there back
  where
    is : (d : ClassFacts) → Contains cs d → same d.name y ≡ true → d ≡ c
    is d h e = let q : Some d ≡ Some c = sym (each_in (IsOf W) cs d g h) ∙ ap (find_class W) (same_is d.name y e) ∙ f in cc

    there : names_in (filter (offers k) cs) y ≡ true → (offers k c && names_in cs y) ≡ true
    there h =
        let q = any_passes (λ (d : ClassFacts). same d.name y) (filter (offers k) cs) h in
        let i = in_filter (offers k) cs q.one q.is_in in
        and_from (offers k c) (names_in cs y) (subst (λ d. offers k d ≡ true) (is q.one i.0 q.passes) i.1) (any_has (λ (d : ClassFacts). same d.name y) cs q.one i.0 q.passes)

    back : (offers k c && names_in cs y) ≡ true → names_in (filter (offers k) cs) y ≡ true
    back h =
        let b = and_parts (offers k c) (names_in cs y) h in
        let q = any_passes (λ (d : ClassFacts). same d.name y) cs b.1 in
        any_has (λ (d : ClassFacts). same d.name y) (filter (offers k) cs) q.one (filter_in (offers k) cs q.one q.is_in (subst (λ d. offers k d ≡ true) (sym (is q.one q.is_in q.passes)) b.0)) q.passes

-- ---- who is above is found

with_of : (W : World) (x : Bytes) → EachOf (IsOf W) (with_interfaces W x)
unfolding with_interfaces
with_of W x = reached_of W (size W) x

of_chain : (W : World) (cs : List ClassFacts) → EachOf (IsOf W) (interfaces_of W cs)
unfolding interfaces_of
of_chain W [] = tt
of_chain W (c ∷ cs) = EachOf-append (IsOf W) (each (with_interfaces W) c.interfaces) (interfaces_of W cs) (each-all (IsOf W) (with_interfaces W) c.interfaces (each_of (λ y. EachOf (IsOf W) (with_interfaces W y)) (with_of W) c.interfaces)) (of_chain W cs)

super_of : (W : World) (x : Bytes) → EachOf (IsOf W) (superinterfaces W x)
unfolding superinterfaces
super_of W x = of_chain W (chain W x)

pub from_of : (W : World) (x : Bytes) → EachOf (IsOf W) (interfaces_from W x)
unfolding interfaces_from
from_of W x = go (is_interface_of W x)
  where
    go : (b : Bool) → EachOf (IsOf W) (cond b (with_interfaces W x) (superinterfaces W x))
    go true = with_of W x
    go false = super_of W x

pub part_of : (W : World) (x : Bytes) (k : Key) → EachOf (IsOf W) (part W x k)
unfolding part
part_of W x k = filter-each (IsOf W) (offers k) (interfaces_from W x) (from_of W x)

pub offered_named : (W : World) → IsTrue (differ_by_name (classes W)) → (x : Bytes) (k : Key) (ids those : List ℕ) → AreNamed W (interfaces_from W x) ids → those ≡ filter (offers_at W k) ids → AreNamed W (part W x k) those
unfolding part
offered_named W d x k ids those h e = record {
  within = subst (All (λ n. n < size W)) (sym e) (All-from_recursion (λ n. n < size W) (filter (offers_at W k) ids) (filter-each (λ n. n < size W) (offers_at W k) ids (recursion_from_All (λ n. n < size W) ids h.within)));
  exact = exact;
}
  where
    exact : (n : ℕ) → n < size W → list_any (λ i. i == n) those ≡ names_in (filter (offers k) (interfaces_from W x)) (name_at W n)
    exact n b =
        let c : IsClass W (name_at W n) = class_at W n d b in
        ap (list_any (λ i. i == n)) e
        ∙ filtered_number (offers_at W k) ids n
        ∙ ap (λ t. t && list_any (λ i. i == n) ids) (offers_is W k n c.facts c.found)
        ∙ ap (λ t. offers k c.facts && t) (h.exact n b)
        ∙ sym (filtered_name W k (interfaces_from W x) (from_of W x) (name_at W n) c.facts c.found)

-- ---- another class, and below it

pub below_other : (W : World) → IsTrue (differ_by_name (classes W)) → (a b : ℕ) → a < size W → b < size W → (n r : Bool) → n ≡ not (a == b) → n ≡ true → r ≡ (same (name_at W a) (name_at W b) || is_superinterface W (name_at W a) (name_at W b))
    → r ≡ is_below_other W (name_at W a) (name_at W b)
below_other W d a b la lb n r e t h =
    let s : same (name_at W a) (name_at W b) ≡ false = same_number W d a b la lb ∙ not-true (a == b) (sym e ∙ t) in
    h ∙ ap (λ q. q || is_superinterface W (name_at W a) (name_at W b)) s ∙ sym (ap (λ q. not q && is_superinterface W (name_at W a) (name_at W b)) s)

false_last : (a b : Bool) → b ≡ false → false ≡ (a && b)
false_last true b e = sym e
false_last false b e = refl

pub not_above : (W : World) (x y : Bytes) → id_of W y ≡ None → is_superinterface W x y ≡ false
not_above W x y e = go (is_superinterface W x y) refl
  where
    go : (b : Bool) → is_superinterface W x y ≡ b → b ≡ false
    go false q = refl
    go true q = absurd (
        let p = any_passes (λ (c : ClassFacts). same c.name y) (superinterfaces W x) q in
        let f : find_class W p.one.name ≡ Some p.one = each_in (IsOf W) (superinterfaces W x) p.one (super_of W x) p.is_in in
        let clash : None ≡ Some p.one = sym (find-None W y e) ∙ ap (find_class W) (sym (same_is p.one.name y p.passes)) ∙ f in cc)

pub not_below : (W : World) (x y : Bytes) → id_of W y ≡ None → false ≡ is_below_other W x y
not_below W x y e = false_last (not (same x y)) (is_superinterface W x y) (not_above W x y e)
