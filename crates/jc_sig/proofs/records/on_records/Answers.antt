use Rattle.std.proofs.Common.{[], ◌++◌, ap, ◌∙◌}
use Rattle.std.specs.List.{cons_option}
use Rattle.jc_sig.proofs.RecordNotes.{all_exact}
use Rattle.jc_sig.proofs.records.on_records.Goals as goal

pub returns : goal.returns
returns c =
    all_exact c.args.name.now c.args.old.now c.args.new.now c.in_ok-on_class.field-0 c.push_some.new.notes.items c.in_ok-more.more.items c.append.new.self.items c.in_ok-on_class.ensures
    (c.in_ok-push_some.ensures ∙ ap (λ xs. xs ++ cons_option c.in_ok-on_class.field-0 []) c.new-notes.ensures.items) c.in_ok-more.ensures c.in_ok-append.ensures.items
