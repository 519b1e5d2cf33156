use Rattle.std.proofs.Common.{List, sym, ◌∙◌, ap, subst}
use Rattle.jc_facts.specs.declared.class_facts.ClassFacts.{ClassFacts}
use Rattle.jc_facts.specs.world.World.{World, side}
use Rattle.jc_loading.specs.PlatformLoads.{AreLoads}
use Rattle.jc_index.specs.Root.{fault_of_root}
use Rattle.jc_index.specs.Sides.{IsSide, overlap_of}
use Rattle.jc_index.proofs.Roots.{is_side}
use Rattle.jc_table.proofs.table.Table.over.Goals as goal

pub of_side-requires-clause-side : goal.of_side-requires-clause-side
of_side-requires-clause-side c =
    subst IsSide (sym (c.new-2.ensures ∙ ap (λ (cs : List ClassFacts). side cs c.in-Ok-new.release) c.in-Ok.ensures ∙ ap (λ (cs : List ClassFacts). side c.args.platform.now cs) c.in-Ok-new.ensures))
    (is_side c.args.platform.now c.args.release.items c.requires.valid_platform c.requires.valid_release c.requires.platform_differs c.requires.release_differs (c.in_default.ensures ∙ ap fault_of_root c.classes.ensures)
    (sym c.in-Ok-None.field-0-is ∙ c.in-Ok-None.ensures ∙ ap (λ (cs : List ClassFacts). overlap_of cs c.as_slice.result.now) c.list.ensures ∙ ap (λ (cs : List ClassFacts). overlap_of c.args.platform.now cs) c.as_slice.ensures.value))

pub of_side-requires-clause-loads : goal.of_side-requires-clause-loads
of_side-requires-clause-loads c =
    subst (λ (cs : List ClassFacts). AreLoads cs c.loads.result.now)
    (sym (ap (λ (W : World). W.platform) (c.new-2.ensures ∙ ap (λ (cs : List ClassFacts). side cs c.in-Ok-new.release) c.in-Ok.ensures)))
    c.loads.ensures.loads
