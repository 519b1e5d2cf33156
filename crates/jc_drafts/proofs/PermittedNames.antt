-- The names that a class permits, as they are looked for.
use Rattle.std.proofs.Common.{◌≡◌, Bool, true, false, not, cond, ◌&&◌, List, [], refl, sym, ◌∙◌, ap, Option, Some, None}
use Rattle.std.proofs.Math.Bool.{and-true}
use Rattle.std.specs.List.Sorted.{IsPermutation}
use Rattle.std.proofs.lemmas.List.Sorted.{list_any-IsPermutation}
use Rattle.jc_facts.specs.declared.class_facts.ClassFacts.{ClassFacts}
use Rattle.jc_facts.specs.Names.{Bytes, same, is_name_among}
use Rattle.jc_facts.specs.Options.{and_then}
use Rattle.jc_facts.specs.world.World.{World, find_class}
use Rattle.jc_facts.specs.world.Modules.{OfClients}
use Rattle.jc_facts.specs.world.Loading.{excludes}
use Rattle.jc_facts.specs.world.Mentioned.{permitted}
use Rattle.jc_promises.specs.rule.Bases.{allowed}
use Rattle.jc_promises.specs.plan.PlannedNames.{least_name, permitted_name, left_out_by, missing_name}
use Rattle.jc_sides.specs.SidesOf.{SidesOf}
use Rattle.jc_drafts.proofs.LowestOfNames.{tests_alike}

-- by a set of the others
pub by_set : (s : SidesOf) (others set names : List Bytes) → IsPermutation others set
    → least_name (λ y. allowed s.old s.new y && not (is_name_among set y)) names ≡ least_name (λ y. allowed s.old s.new y && not (is_name_among others y)) names
by_set s others set names p =
    tests_alike (λ y. allowed s.old s.new y && not (is_name_among set y)) (λ y. allowed s.old s.new y && not (is_name_among others y))
    (λ y. ap (λ (b : Bool). allowed s.old s.new y && not b) (sym (list_any-IsPermutation (λ z. same z y) others set p))) names

module _ (s : SidesOf) (W : World) (old : W ≡ s.old) (x : Bytes) where
  pub no_class : None ≡ find_class W x → None ≡ permitted_name s.old s.new x
  unfolding and_then
  no_class e = rw (← old) (rw (← e) refl)

  pub of_class : (c : ClassFacts) (names : List Bytes) (found : Option Bytes) → Some c ≡ find_class W x → names ≡ permitted c.permits
      → found ≡ least_name (λ y. allowed s.old s.new y && not (is_name_among [] y)) names → found ≡ permitted_name s.old s.new x
  unfolding and_then
  of_class c names found e n f =
      f ∙ tests_alike (λ y. allowed s.old s.new y && true) (allowed s.old s.new) (λ y. and-true (allowed s.old s.new y)) names ∙ ap (least_name (allowed s.old s.new)) n
      ∙ ap (λ o. and_then (λ (d : ClassFacts). least_name (allowed s.old s.new) (permitted d.permits)) o) (e ∙ ap (λ V. find_class V x) old)

  -- the old class isn't there
  pub no_old : None ≡ find_class W x → None ≡ missing_name s.old s.new x
  unfolding and_then
  no_old e = rw (← old) (rw (← e) refl)

  module _ (V : World) (new : V ≡ s.new) (c : ClassFacts) (before : Some c ≡ find_class W x) where
    -- what is missing of the class on the new side
    abbrev missing_of : ClassFacts → Option Bytes
    missing_of d = cond (excludes s.new d OfClients) None (left_out_by s.old s.new c d.permits)

    missing_is : missing_name s.old s.new x ≡ and_then missing_of (find_class V x)
    unfolding and_then
    missing_is =
        ap (λ (o : Option ClassFacts). and_then (λ (b : ClassFacts). and_then (λ (d : ClassFacts). cond (excludes s.new d OfClients) None (left_out_by s.old s.new b d.permits)) (find_class s.new x)) o)
        (ap (λ U. find_class U x) (sym old) ∙ sym before) ∙ ap (λ U. and_then missing_of (find_class U x)) (sym new)

    of_new : (d : ClassFacts) → Some d ≡ find_class V x → missing_of d ≡ missing_name s.old s.new x
    unfolding and_then
    of_new d e = ap (λ o. and_then missing_of o) e ∙ sym missing_is

    let_in : (d : ClassFacts) → excludes V d OfClients ≡ false → left_out_by s.old s.new c d.permits ≡ missing_of d
    let_in d h = ap (λ b. cond b None (left_out_by s.old s.new c d.permits)) (sym h ∙ ap (λ U. excludes U d OfClients) new)

    -- the new one isn't there, or excludes clients, or has no list
    pub no_new : None ≡ find_class V x → None ≡ missing_name s.old s.new x
    unfolding and_then
    no_new e = ap (λ o. and_then missing_of o) e ∙ sym missing_is

    pub excluded : (d : ClassFacts) → Some d ≡ find_class V x → excludes V d OfClients ≡ true → None ≡ missing_name s.old s.new x
    excluded d e h = ap (λ b. cond b None (left_out_by s.old s.new c d.permits)) (sym h ∙ ap (λ U. excludes U d OfClients) new) ∙ of_new d e

    pub no_list : (d : ClassFacts) → Some d ≡ find_class V x → excludes V d OfClients ≡ false → d.permits ≡ None → None ≡ missing_name s.old s.new x
    unfolding and_then
    no_list d e h p = ap (left_out_by s.old s.new c) (sym p) ∙ let_in d h ∙ of_new d e

    pub of_list : (d : ClassFacts) (others names : List Bytes) (found : Option Bytes) → Some d ≡ find_class V x → excludes V d OfClients ≡ false → d.permits ≡ Some others → names ≡ permitted c.permits
        → found ≡ least_name (λ y. allowed s.old s.new y && not (is_name_among others y)) names → found ≡ missing_name s.old s.new x
    unfolding and_then
    of_list d others names found e h p n f =
        f ∙ ap (least_name (λ y. allowed s.old s.new y && not (is_name_among others y))) n ∙ ap (left_out_by s.old s.new c) (sym p) ∙ let_in d h ∙ of_new d e
