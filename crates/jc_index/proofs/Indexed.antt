-- The classes that are found by their names, and the side that is kept of them.
use Rattle.std.proofs.Common.{◌≡◌, ℕ, ◌<◌, ◌≤◌, ◌+◌, ◌++◌, Bool, true, false, refl, List, [], length, length-append, get_or, sym, ◌∙◌, ap, subst, Some, None, arith, ◌⊎◌, inl, inr}
use Rattle.std.specs.Prelude.{is_some, IsTrue, nat_lt, slice_get}
use Rattle.std.proofs.lemmas.List.{length-map, get_or-map, get_or_default}
use Rattle.std.proofs.lemmas.Option.{slice_get_cases}
use Rattle.jc_facts.specs.declared.class_facts.ClassFacts.{ClassFacts}
use Rattle.jc_facts.specs.Names.{Bytes}
use Rattle.jc_facts.specs.world.Search.{supers}
use Rattle.jc_facts.specs.world.World.{World, Modules, OneModule, Several, classes, size, find_class, class_named, differ_by_name}
use Rattle.jc_facts.specs.world.Modules.{module_by, module_of}
use Rattle.jc_worlds.proofs.Absent.{class_named-back}
use Rattle.jc_lemmas.proofs.Options.{none_from}
use Rattle.std.proofs.Math.Seq.{take-append_seam}
use Rattle.jc_index.specs.Ids.{names_of, names, name_at, place_of, id_of, name_or, name_in}
use Rattle.jc_index.specs.steps.Order.{names_at}
use Rattle.jc_index.specs.steps.NamedClasses.{AreNamedClasses}
use Rattle.jc_index.specs.steps.PlacesAbove.{IsAbove}
use Rattle.jc_index.specs.declared.named_classes.NamedClasses.TheInside.{Inside}
use Rattle.jc_index.proofs.Numbers.{IsAt, place-at, names_of-length, id_of-Some}
use Rattle.jc_index.proofs.InSide.{front}
use Rattle.jc_index.proofs.Places.{order_length, found_there, in_front}
use Rattle.jc_index.proofs.Standing.{name_in-at, unplaced}

-- whether the release has a class matters where the platform doesn't
module_after : (m : Modules) (p r s : Bool) → (p ≡ false → r ≡ s) → module_by m p r ≡ module_by m p s
module_after OneModule p r s h = refl
module_after (Several exports) true r s h = refl
module_after (Several exports) false r s h = ap (module_by (Several exports) false) (h refl)

module _ (i : Inside) (h : AreNamedClasses i) (W : World) (v : i.side ≡ W) where
  classes_are : classes W ≡ classes i.side
  classes_are = ap classes (sym v)

  pub differ : IsTrue (differ_by_name (classes i.side))
  differ = h.side.differ

  names_are : names W ≡ names_of (classes i.side)
  unfolding names
  names_are = ap names_of classes_are

  find_is : (x : Bytes) → find_class W x ≡ class_named (classes i.side) x
  unfolding find_class
  find_is x = ap (λ (cs : List ClassFacts). class_named cs x) classes_are

  pub count_is : length i.order.items ≡ size W
  unfolding size
  count_is = order_length (classes i.side) i.order.items h.order ∙ names_of-length (classes i.side) ∙ sym (ap length classes_are)

  pub size_is : length (classes i.side) ≡ size W
  unfolding size
  size_is = sym (ap length classes_are)

  id_is : (x : Bytes) → place_of (names_of (classes i.side)) x ≡ id_of W x
  unfolding id_of
  id_is x = sym (ap (λ (ns : List Bytes). place_of ns x) names_are)

  -- the number of a name is that of its place
  pub number_is : (x : Bytes) (at : ℕ) → place_of (names_at (classes i.side)) x ≡ Some at → (at < length i.numbers.items) × (Some (get_or i.numbers.items at 0) ≡ id_of W x)
  number_is x at e =
      let a : IsAt (names_at (classes i.side)) x at = place-at (names_at (classes i.side)) x at e in
      let below : at < length (names_at (classes i.side)) = a.within in
      let many = h.numbers.count in
      let l : at < length (classes i.side) = omega (arith, length-map (classes i.side) (λ (c : ClassFacts). c.name)) in
      (omega arith, sym (h.numbers.each at l) ∙ ap (place_of (names_of (classes i.side))) a.name ∙ id_is x)

  -- a name without a place has none
  pub no_number : (x : Bytes) → place_of (names_at (classes i.side)) x ≡ None → None ≡ id_of W x
  no_number x e = sym (unplaced (classes i.side) x e) ∙ id_is x

  -- the place of a number is within the classes
  pub within : (n at : ℕ) → n < size W → at ≡ get_or i.order.items n at → at < length (classes i.side)
  within n at l a = let e = count_is in subst (λ (k : ℕ). k < length (classes i.side)) (sym a) (h.order.within n at (omega arith))

  -- the name there is the number's
  pub named_there : (n at : ℕ) → n < size W → at ≡ get_or i.order.items n at → name_in (classes W) at ≡ name_at W n
  named_there n at l a =
      let many = count_is in
      let below : n < length i.order.items = omega arith in
      ap (λ (cs : List ClassFacts). name_in cs at) classes_are ∙ ap (name_in (classes i.side)) a ∙ sym (get_or-map (name_in (classes i.side)) i.order.items n at [] below)
      ∙ ap (λ (ns : List Bytes). get_or ns n []) (h.order.named ∙ sym names_are)

  -- the number at a place is that of the name there
  pub number_there : (at number read : ℕ) → at < length (classes W) → number ≡ read → read ≡ get_or i.numbers.items at read → (number < size W) × (name_at W number ≡ name_in (classes W) at)
  number_there at number read l n r =
      let inside : at < length (classes i.side) = subst (λ (cs : List ClassFacts). at < length cs) classes_are l in
      let below : at < length i.numbers.items = subst (λ (m : ℕ). at < m) (sym h.numbers.count) inside in
      let is : number ≡ get_or i.numbers.items at 0 = n ∙ r ∙ get_or_default i.numbers.items at read 0 below in
      id_of-Some W (name_in (classes W) at) number
      (sym (id_is (name_in (classes W) at)) ∙ ap (λ (cs : List ClassFacts). place_of (names_of (classes i.side)) (name_in cs at)) classes_are
      ∙ ap (place_of (names_of (classes i.side))) (name_in-at (classes i.side) at inside) ∙ h.numbers.each at inside ∙ ap Some (sym is))

  -- the class there has the number's name
  name_is : (n at : ℕ) (c : ClassFacts) → n < size W → at ≡ get_or i.order.items n at → slice_get (classes i.side) at ≡ Some c → c.name ≡ name_at W n
  name_is n at c l a e =
      let many = count_is in
      let below : n < length i.order.items = omega arith in
      sym (ap name_or e) ∙ ap (name_in (classes i.side)) a ∙ sym (get_or-map (name_in (classes i.side)) i.order.items n at [] below)
      ∙ ap (λ (ns : List Bytes). get_or ns n []) (h.order.named ∙ sym names_are)

  -- and is the one that it finds
  pub class_is : (n at : ℕ) (c : ClassFacts) → n < size W → at ≡ get_or i.order.items n at → Some c ≡ slice_get (classes i.side) at → Some c ≡ find_class W (name_at W n)
  class_is n at c l a e =
      let there : slice_get (classes i.side) at ≡ Some c = sym e in
      sym (found_there (classes i.side) at c differ there) ∙ ap (class_named (classes i.side)) (name_is n at c l a there) ∙ sym (find_is (name_at W n))

  -- it is of the platform exactly where its place is one of the first
  pub front_is : (n at : ℕ) → n < size W → at ≡ get_or i.order.items n at → nat_lt at (length i.side.platform) ≡ is_some (class_named W.platform (name_at W n))
  front_is n at l a = go (slice_get_cases (classes i.side) at).1
    where
      go : ((c : ClassFacts) × (at < length (classes i.side)) × (slice_get (classes i.side) at ≡ Some c) × (get_or (classes i.side) at c ≡ c)) ⊎ ((length (classes i.side) ≤ at) × (slice_get (classes i.side) at ≡ None))
          → nat_lt at (length i.side.platform) ≡ is_some (class_named W.platform (name_at W n))
      go (inl x) =
          in_front (classes i.side) (length i.side.platform) at x.0 differ x.2 ∙ ap (λ (cs : List ClassFacts). is_some (class_named cs x.0.name)) (front i.side) ∙ ap (λ (y : Bytes). is_some (class_named i.side.platform y)) (name_is n at x.0 l a x.2)
          ∙ ap (λ (V : World). is_some (class_named V.platform (name_at W n))) v
      go (inr x) = absurd (let k = within n at l a in omega (arith, x.0))

  -- it is of the platform or of the release exactly where its place is one of theirs
  before_is : (n at : ℕ) → n < size W → at ≡ get_or i.order.items n at → nat_lt at (length i.side.platform + length i.side.release) ≡ is_some (class_named (i.side.platform ++ i.side.release) (name_at W n))
  before_is n at l a = go (slice_get_cases (classes i.side) at).1
    where
      both : List ClassFacts
      both = i.side.platform ++ i.side.release

      go : ((c : ClassFacts) × (at < length (classes i.side)) × (slice_get (classes i.side) at ≡ Some c) × (get_or (classes i.side) at c ≡ c)) ⊎ ((length (classes i.side) ≤ at) × (slice_get (classes i.side) at ≡ None))
          → nat_lt at (length i.side.platform + length i.side.release) ≡ is_some (class_named both (name_at W n))
      go (inl x) =
          ap (nat_lt at) (sym (length-append i.side.platform i.side.release)) ∙ in_front (classes i.side) (length both) at x.0 differ x.2
          ∙ ap (λ (cs : List ClassFacts). is_some (class_named cs x.0.name)) (take-append_seam both i.side.clients) ∙ ap (λ (y : Bytes). is_some (class_named both y)) (name_is n at x.0 l a x.2)
      go (inr x) = absurd (let k = within n at l a in omega (arith, x.0))

  -- so its module is that of its place
  pub module_is : (n at : ℕ) → n < size W → at ≡ get_or i.order.items n at
      → module_by i.side.modules (nat_lt at (length i.side.platform)) (nat_lt at (length i.side.platform + length i.side.release)) ≡ module_of W (name_at W n)
  module_is n at l a =
      let x : Bytes = name_at W n in
      let later : is_some (class_named i.side.platform x) ≡ false → is_some (class_named (i.side.platform ++ i.side.release) x) ≡ is_some (class_named i.side.release x) =
      λ h. ap is_some (class_named-back i.side.platform i.side.release x (none_from (class_named i.side.platform x) h))
      in
      ap (λ b. module_by i.side.modules b (nat_lt at (length i.side.platform + length i.side.release))) (front_is n at l a ∙ ap (λ (V : World). is_some (class_named V.platform x)) (sym v))
      ∙ ap (module_by i.side.modules (is_some (class_named i.side.platform x))) (before_is n at l a)
      ∙ module_after i.side.modules (is_some (class_named i.side.platform x)) _ _ later
      ∙ ap (λ (V : World). module_of V x) v

  -- a name that the class of a number has above itself, by the class's place
  pub above_there : (n at place : ℕ) (x : Bytes) → n < size W → place ≡ get_or i.order.items n place → ((c : ClassFacts) → find_class W (name_at W n) ≡ Some c → slice_get (supers c) at ≡ Some x) → IsAbove (classes i.side) place at x
  above_there n at place x l a named = go (slice_get_cases (classes i.side) place).1
    where
      go : ((c : ClassFacts) × (place < length (classes i.side)) × (slice_get (classes i.side) place ≡ Some c) × (get_or (classes i.side) place c ≡ c)) ⊎ ((length (classes i.side) ≤ place) × (slice_get (classes i.side) place ≡ None)) → IsAbove (classes i.side) place at x
      go (inl c) = record { class = c.0; there = c.2; named = named c.0 (sym (class_is n place c.0 l a (sym c.2))) }
      go (inr c) = absurd (let k = within n place l a in omega (arith, c.0))
