use Rattle.std.proofs.Common.{sym, ◌∙◌, ap}
use Rattle.jc_facts.specs.Names.{Bytes}
use Rattle.jc_facts.specs.world.Modules.{module_of}
use Rattle.jc_facts.specs.world.World.{World}
use Rattle.jc_facts.proofs.World.{find-name}
use Rattle.jc_index.specs.Ids.{name_at}
use Rattle.jc_index.specs.SideModules.{modules_of, module_view}
use Rattle.jc_index.proofs.Visible.{shown_from}
use Rattle.jc_index.proofs.index.Index.is_visible_from.Goals as goal

pub returns : goal.returns
returns c =
    let W : World = c.args.self.now in
    let x : Bytes = name_at W c.args.from in
    let y : Bytes = name_at W c.args.id in
    c.show_to.ensures
    ∙ shown_from W x y c.as_bytes-name.result.now (module_view c.module_of.result) (module_view c.module_of-2.result) (modules_of c.modules.result.now)
    (c.module_of.ensures ∙ ap (λ (V : World). module_of V (name_at V c.args.from)) c.self.view_is) (c.module_of-2.ensures ∙ ap (λ (V : World). module_of V (name_at V c.args.id)) c.self.view_is)
    (c.modules.ensures ∙ ap (λ (V : World). V.modules) c.side.ensures)
    (c.as_bytes-name.ensures ∙ find-name W y c.facts.result.now (sym c.facts.ensures))
