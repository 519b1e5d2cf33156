use Rattle.std.proofs.Common.{◌≡◌, true, false, List, is_some, sym, subst, ◌∙◌}
use Rattle.jc_facts.specs.declared.verdict.Note.{Note}
use Rattle.jc_facts.specs.Names.{Bytes}
use Rattle.jc_facts.specs.Orders.{note_order}
use Rattle.jc_facts.specs.Exactly.{HasExactly}
use Rattle.jc_facts.specs.world.World.{class_named}
use Rattle.jc_sides.specs.SidesOf.{SidesOf}
use Rattle.jc_index.specs.Ids.{name_at}
use Rattle.jc_declared.specs.steps.Notes.{is_in_both, OnConstants}
use Rattle.jc_declared.proofs.NoteConstant.{both_kept, both_unkept, not_both, on_none}
use Rattle.jc_declared.proofs.note_constant.on_class.Goals as goal

pub returns-then-in_platform : goal.returns-then-in_platform
returns-then-in_platform c =
    let x : Bytes = name_at c.args.sides.now.old c.args.id in
    subst (λ (ns : List Note). HasExactly note_order (OnConstants c.args.sides.now x) ns) (sym c.new.ensures.items)
    (on_none c.args.sides.now x (not_both c.args.sides.now c.requires.sides x (subst (λ (s : SidesOf). is_some (class_named s.old.platform (name_at s.old c.args.id)) ≡ true) c.sides.view_is (sym c.in_platform.ensures ∙ c.if-in_platform.true))))

pub returns-in_default : goal.returns-in_default
returns-in_default c =
    subst (λ (ns : List Note). HasExactly note_order (OnConstants c.args.sides.now (name_at c.args.sides.now.old c.args.id)) ns) (sym c.new-in_default.ensures.items)
    (on_none c.args.sides.now (name_at c.args.sides.now.old c.args.id) (both_unkept c.args.sides.now (name_at c.args.sides.now.old c.args.id) c.in_default.ensures))

pub on_keys-requires-clause-covered : goal.on_keys-requires-clause-covered
on_keys-requires-clause-covered c =
    let x : Bytes = name_at c.args.sides.now.old c.args.id in
    subst (λ (y : Bytes). is_in_both c.args.sides.now y ≡ true) (sym c.in-Some.ensures.1)
    (both_kept c.args.sides.now c.requires.sides x (subst (λ (s : SidesOf). is_some (class_named s.old.platform (name_at s.old c.args.id)) ≡ false) c.sides.view_is (sym c.in_platform.ensures ∙ c.if-in_platform.false)) c.in-Some.ensures.0)
