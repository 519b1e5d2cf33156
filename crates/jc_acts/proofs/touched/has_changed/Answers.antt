use Rattle.std.proofs.Common.{◌≡◌, false, not, Some, sym, ◌∙◌, ap, subst}
use Rattle.jc_facts.specs.Names.{Bytes}
use Rattle.jc_facts.specs.world.World.{find_class}
use Rattle.jc_index.specs.Ids.{name_at}
use Rattle.jc_sides.specs.SidesFields.{worlds}
use Rattle.jc_sides.specs.SidesOf.{SidesOf}
use Rattle.jc_sides.proofs.Seen.{of_same_name}
use Rattle.jc_acts.specs.Touched.{is_changed}
use Rattle.jc_acts.proofs.Changed.{platform_same, changed_there, changed_gone}
use Rattle.jc_acts.proofs.touched.has_changed.Goals as goal

pub returns-then-in_platform : goal.returns-then-in_platform
returns-then-in_platform c =
    let x : Bytes = name_at c.sides.inside.old.now c.args.id in
    subst (λ (s : SidesOf). false ≡ is_changed s (name_at s.old c.args.id)) c.sides.view_is (platform_same (worlds c.sides.inside) c.sides.invariant.sides.run.platform x (sym c.in_platform.ensures ∙ c.if-in_platform.true))

pub returns-in-Some : goal.returns-in-Some
returns-in-Some c =
    let before : Some c.facts-before.result.now ≡ find_class c.args.sides.now.old (name_at c.args.sides.now.old c.args.id) = c.facts-before.ensures ∙ ap (λ (s : SidesOf). find_class s.old (name_at s.old c.args.id)) c.sides.view_is in
    ap not c.are_same.ensures
    ∙ changed_there c.args.sides.now (name_at c.args.sides.now.old c.args.id) c.facts-before.result.now c.facts.result.now before
    (of_same_name (worlds c.sides.inside) c.args.sides.now c.sides.view_is c.args.id c.in-Some.now (sym c.in-Some.is ∙ c.new_id.ensures.value) (λ W x. Some c.facts.result.now ≡ find_class W x) c.facts.ensures)

pub returns-in-None : goal.returns-in-None
returns-in-None c =
    let before : Some c.facts-before.result.now ≡ find_class c.args.sides.now.old (name_at c.args.sides.now.old c.args.id) = c.facts-before.ensures ∙ ap (λ (s : SidesOf). find_class s.old (name_at s.old c.args.id)) c.sides.view_is in
    changed_gone c.args.sides.now (name_at c.args.sides.now.old c.args.id) c.facts-before.result.now before (sym c.new_id.ensures.value ∙ c.in-None.is)
