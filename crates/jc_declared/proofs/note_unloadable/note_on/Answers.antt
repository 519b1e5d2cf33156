use Rattle.std.proofs.Common.{sym, ◌∙◌}
use Rattle.jc_facts.specs.Names.{Bytes}
use Rattle.jc_facts.proofs.World.{found_name}
use Rattle.jc_index.specs.Ids.{name_at}
use Rattle.jc_declared.proofs.NoteUnloadable.{loaded_note, made_note}
use Rattle.jc_declared.proofs.note_unloadable.note_on.Goals as goal

pub returns-in_default : goal.returns-in_default
returns-in_default c = sym (loaded_note c.args.table.now c.args.of_old (name_at c.args.table.now c.args.id) (sym c.fault_at.ensures ∙ c.in_default.is))

pub returns : goal.returns
returns c =
    let x : Bytes = name_at c.args.table.now c.args.id in
    sym (made_note c.args.table.now c.args.of_old x c.in_ok-copy.field-0 c.in-Some.error (sym c.in_platform.ensures ∙ c.if-in_platform.false) (sym c.fault_at.ensures ∙ c.in-Some.is)
    (c.in_ok-copy.ensures ∙ found_name c.args.table.now x c.facts.result.now c.facts.ensures))
