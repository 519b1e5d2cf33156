use Rattle.std.proofs.Common.{◌++◌, List, refl, sym, ◌∙◌, ap, append_assoc}
use Rattle.jc_facts.specs.declared.class_facts.ClassFacts.{ClassFacts}
use Rattle.jc_facts.specs.world.World.{World, classes}
use Rattle.jc_index.specs.Ids.{place_of}
use Rattle.jc_index.specs.steps.Order.{names_at}
use Rattle.jc_index.proofs.InSide.{platform_is, all_is}
use Rattle.jc_index.proofs.Standing.{place-platform, place-beside}
use Rattle.jc_index.proofs.side.Side.place.Goals as goal

pub returns-in-Some : goal.returns-in-Some
returns-in-Some c =
    place-platform c.self.inside.platform c.self.inside.beside (classes c.args.self.now) (all_is c.self.inside c.args.self.now c.self.view_is) c.args.name.now c.in-Some.place
    (sym (c.in-Some.ensures.value ∙ ap (λ (cs : List ClassFacts). place_of (names_at cs) c.args.name.now) c.list.ensures))

pub returns-in-None : goal.returns-in-None
returns-in-None c =
    let W : World = c.args.self.now in
    c.place_beside.ensures
    ∙ place-beside W.platform (W.release ++ W.clients) (classes W) (sym (append_assoc W.platform W.release W.clients)) c.args.name.now (place_of (names_at (W.release ++ W.clients)) c.args.name.now)
    (sym (c.in-None.ensures.value ∙ ap (λ (cs : List ClassFacts). place_of (names_at cs) c.args.name.now) (c.list.ensures ∙ platform_is c.self.inside c.args.self.now c.self.view_is))) refl
