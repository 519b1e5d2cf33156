use Rattle.std.proofs.Common.{◌≡◌, ℕ, List, Option, Some, None, sym, ◌∙◌, ap}
use Rattle.std.specs.Prelude.{slice_get}
use Rattle.jc_facts.specs.declared.class_facts.ClassFacts.{ClassFacts}
use Rattle.jc_facts.specs.Options.{and_then}
use Rattle.jc_index.specs.steps.PlacesAbove.{place_above}
use Rattle.jc_index.proofs.PlacesAbove.{row-there, row-past, in-row, no-row}
use Rattle.jc_index.proofs.platform_list.PlatformList.place_above.Goals as goal

pub returns-in-Some : goal.returns-in-Some
returns-in-Some c =
    let there : slice_get c.self.inside.above.items c.args.place ≡ Some c.in-Some.places.now = ap (λ (rs : List (List (Option ℕ))). slice_get rs c.args.place) (sym c.deref.ensures.value) ∙ row-there c.deref.result.now c.args.place c.in-Some.places.now c.in-Some.ensures.lookup.0 c.in-Some.ensures.lookup.1 in
    c.one_of.ensures ∙ ap (λ (row : List (Option ℕ)). and_then (λ (o : Option ℕ). o) (slice_get row c.args.at)) c.as_slice.ensures
    ∙ in-row c.self.inside.list c.self.inside.above.items c.self.invariant.places c.args.place c.args.at c.in-Some.places.now there
    ∙ ap (λ (cs : List ClassFacts). place_above cs c.args.place c.args.at) c.self.view_is

pub returns-in-None : goal.returns-in-None
returns-in-None c =
    let none : slice_get c.self.inside.above.items c.args.place ≡ None = ap (λ (rs : List (List (Option ℕ))). slice_get rs c.args.place) (sym c.deref.ensures.value) ∙ row-past c.deref.result.now c.args.place c.in-None.ensures.lookup.0 in
    no-row c.self.inside.list c.self.inside.above.items c.self.invariant.places c.args.place c.args.at none
    ∙ ap (λ (cs : List ClassFacts). place_above cs c.args.place c.args.at) c.self.view_is
