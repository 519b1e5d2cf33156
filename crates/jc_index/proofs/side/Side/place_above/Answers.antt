use Rattle.std.proofs.Common.{◌≡◌, ◌++◌, Some, None, List, refl, sym, ◌∙◌, ap, append_assoc}
use Rattle.jc_facts.specs.declared.class_facts.ClassFacts.{ClassFacts}
use Rattle.jc_facts.specs.world.World.{World, classes}
use Rattle.jc_index.specs.Ids.{place_of}
use Rattle.jc_index.specs.steps.Order.{names_at}
use Rattle.jc_index.specs.steps.PlacesAbove.{place_above}
use Rattle.jc_index.proofs.InSide.{platform_is}
use Rattle.jc_index.proofs.Standing.{place-platform, place-beside, kept-place}
use Rattle.jc_index.proofs.side.Side.place_above.Goals as goal

pub returns-in-Some : goal.returns-in-Some
returns-in-Some c =
    let W : World = c.args.self.now in
    let lists : W.platform ++ (W.release ++ W.clients) ≡ classes W = sym (append_assoc W.platform W.release W.clients) in
    place-platform W.platform (W.release ++ W.clients) (classes W) lists c.args.name.now c.in-Some.place
    (kept-place W.platform (W.release ++ W.clients) (classes W) lists c.args.place c.args.at c.args.name.now (Some c.in-Some.place) c.requires (sym c.in_platform.ensures ∙ c.if-not-in_platform.false)
    (c.in-Some.ensures ∙ ap (λ (cs : List ClassFacts). place_above cs c.args.place c.args.at) (platform_is c.self.inside c.args.self.now c.self.view_is)))

pub returns-in-None : goal.returns-in-None
returns-in-None c =
    let W : World = c.args.self.now in
    let lists : W.platform ++ (W.release ++ W.clients) ≡ classes W = sym (append_assoc W.platform W.release W.clients) in
    c.place_beside.ensures
    ∙ place-beside W.platform (W.release ++ W.clients) (classes W) lists c.args.name.now (place_of (names_at (W.release ++ W.clients)) c.args.name.now)
    (kept-place W.platform (W.release ++ W.clients) (classes W) lists c.args.place c.args.at c.args.name.now None c.requires (sym c.in_platform.ensures ∙ c.if-not-in_platform.false)
    (c.in-None.ensures ∙ ap (λ (cs : List ClassFacts). place_above cs c.args.place c.args.at) (platform_is c.self.inside c.args.self.now c.self.view_is)))
    refl
