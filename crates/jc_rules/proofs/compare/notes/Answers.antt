use Rattle.std.proofs.Common.{true, false, subst}
use Rattle.jc_facts.specs.Orders.{note_order}
use Rattle.jc_facts.specs.Exactly.{HasExactly}
use Rattle.jc_sides.specs.SidesOf.{SidesOf}
use Rattle.jc_declared.specs.steps.Notes.{NoteIn}
use Rattle.jc_rules.proofs.AllRules.{all_notes}
use Rattle.jc_rules.proofs.compare.notes.Goals as goal

pub returns : goal.returns
returns c =
    all_notes c.args.sides.now (subst (λ (s : SidesOf). HasExactly note_order (NoteIn s.old true) c.in_ok-notes.notes.items) c.sides.view_is c.in_ok-notes.ensures)
    (subst (λ (s : SidesOf). HasExactly note_order (NoteIn s.new false) c.in_ok-note_unloadable.field-0.items) c.sides.view_is c.in_ok-note_unloadable.ensures) c.in_ok-append.ensures.items
    c.in_ok-note_constant.ensures c.in_ok-append-2.ensures.items

pub note_unloadable-requires : goal.note_unloadable-requires
note_unloadable-requires c = c.sides.invariant.sides.run.old_bare

pub note_unloadable-requires-2 : goal.note_unloadable-requires-2
note_unloadable-requires-2 c = c.sides.invariant.sides.run.new_bare
