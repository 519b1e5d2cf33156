use Rattle.std.proofs.Common.{◌≡◌, true, List, [], ◌∷◌, ◌++◌, Option, None, refl, sym, ◌∙◌, ap, subst}
use Rattle.std.specs.Prelude.{is_none, option_map, IsTrue}
use Rattle.std.proofs.lemmas.Bool.{and_parts}
use Rattle.jc_lemmas.proofs.Options.{none_where}
use Rattle.jc_facts.specs.declared.class_facts.ClassFacts.{ClassFacts}
use Rattle.jc_facts.specs.Names.{Bytes}
use Rattle.jc_facts.specs.world.World.{differ_by_name, World, class_named, modular_side, with_clients}
use Rattle.jc_worlds.proofs.Absent.{class_named-absent}
use Rattle.jc_loading.specs.PlatformLoads.{AreLoads}
use Rattle.jc_index.specs.Root.{fault_of_root}
use Rattle.jc_index.specs.Sides.{IsSide, overlap_of}
use Rattle.jc_index.proofs.Roots.{is_side_with}
use Rattle.jc_table.proofs.table.Table.over_modular.Goals as goal

front_differs : (cs ds : List ClassFacts) → differ_by_name (cs ++ ds) ≡ true → differ_by_name cs ≡ true
unfolding differ_by_name
front_differs [] ds h = refl
front_differs (c ∷ cs) ds h =
    let p = and_parts (is_none (class_named (cs ++ ds) c.name)) (differ_by_name (cs ++ ds)) h in
    let e : class_named cs c.name ≡ None = class_named-absent cs ds c.name (none_where (class_named (cs ++ ds) c.name) p.0) in
    rw (e, front_differs cs ds p.1) refl

pub first_overlap-requires-clause-release_differs : goal.first_overlap-requires-clause-release_differs
first_overlap-requires-clause-release_differs c =
    subst (λ (cs : List ClassFacts). IsTrue (differ_by_name cs)) (sym c.as_slice.ensures.value) (front_differs c.args.release.items c.args.clients.items c.requires.beside_differ)

pub of_side-requires-clause-side : goal.of_side-requires-clause-side
of_side-requires-clause-side c =
    let exports : Option (List Bytes) = option_map (λ ns. ns.items) c.args.exports in
    subst IsSide (sym (c.in-Ok-modular_side_of.ensures ∙ ap (λ (cs : List ClassFacts). with_clients (modular_side exports cs c.args.release.items) c.args.clients.items) c.in-Ok.ensures))
    (is_side_with (with_clients (modular_side exports c.args.platform.now c.args.release.items) c.args.clients.items)
    c.requires.valid_platform c.requires.valid_release c.requires.valid_clients c.requires.platform_differs c.requires.beside_differ c.requires.clients_apart (c.in_default.ensures ∙ ap fault_of_root c.classes.ensures)
    (sym c.in-Ok-None.field-0-is ∙ c.in-Ok-None.ensures ∙ ap (λ (cs : List ClassFacts). overlap_of cs c.as_slice.result.now) c.list.ensures ∙ ap (λ (cs : List ClassFacts). overlap_of c.args.platform.now cs) c.as_slice.ensures.value))

pub of_side-requires-clause-loads : goal.of_side-requires-clause-loads
of_side-requires-clause-loads c =
    subst (λ (cs : List ClassFacts). AreLoads cs c.loads.result.now) (sym (ap (λ (W : World). W.platform) c.in-Ok-modular_side_of.ensures ∙ c.in-Ok.ensures)) c.loads.ensures.loads
