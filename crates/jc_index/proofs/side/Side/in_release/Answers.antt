use Rattle.std.proofs.Common.{◌∙◌, ap}
use Rattle.std.specs.Prelude.{is_some}
use Rattle.jc_facts.specs.world.World.{World, class_named}
use Rattle.jc_index.proofs.Standing.{is_before, among_first}
use Rattle.jc_index.proofs.side.Side.in_release.Goals as goal

pub returns-in-Some : goal.returns-in-Some
returns-in-Some c =
    ap (is_before c.self.inside.of_release) c.in-Some.ensures.value ∙ among_first c.self.inside.beside c.self.inside.of_release c.args.name.now
    ∙ ap (λ (V : World). is_some (class_named V.release c.args.name.now)) c.self.view_is

pub returns-in-None : goal.returns-in-None
returns-in-None c =
    ap (is_before c.self.inside.of_release) c.in-None.ensures.value ∙ among_first c.self.inside.beside c.self.inside.of_release c.args.name.now
    ∙ ap (λ (V : World). is_some (class_named V.release c.args.name.now)) c.self.view_is
