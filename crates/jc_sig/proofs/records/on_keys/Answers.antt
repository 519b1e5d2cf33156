use Rattle.std.proofs.Common.{List, [], ◌∷◌, ◌++◌, sym, ap, ◌∙◌, append_assoc}
use Rattle.jc_facts.specs.declared.key.Key.{Key}
use Rattle.jc_sig.specs.steps.OnRecords.{note_in}
use Rattle.jc_sig.proofs.RecordNotes.{key_more}
use Rattle.jc_sig.proofs.records.on_keys.Goals as goal

pub loop-key-preserved : goal.loop-key-preserved
loop-key-preserved c =
    let i = c.loop-key.invariant in (
      i.0 ++ c.in-Some.key.now ∷ [],
      i.1 ∙ ap (λ (ks : List Key). i.0 ++ ks) c.in-Some.ensures.steps ∙ sym (append_assoc i.0 (c.in-Some.key.now ∷ []) c.next.new.self),
      key_more (note_in c.args.name.now c.args.was.now c.args.now.now c.args.before.now c.args.after.now) i.0 c.in-Some.key.now c.in_ok-on_key.field-0 c.loop-key.notes.items c.push_some.new.notes.items
          i.2 c.in_ok-on_key.ensures c.in_ok-push_some.ensures,
    )
