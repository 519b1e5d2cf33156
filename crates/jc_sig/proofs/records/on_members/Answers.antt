use Rattle.jc_sig.proofs.RecordNotes.{members_unsigned, members_exact}
use Rattle.jc_sig.proofs.records.on_members.Goals as goal

pub returns : goal.returns
returns c =
    members_exact c.args.name.now c.args.old.now c.args.new.now c.in_ok-signatures.signatures c.in_ok-new_signatures.new_signatures c.in_ok-members.members c.in_ok-new_members.new_members
    c.in_ok-signatures.ensures c.in_ok-new_signatures.ensures c.in_ok-members.ensures c.in_ok-new_members.ensures c.in_ok-notes.ensures.ordered c.in_ok-notes.notes.items c.in_ok-notes.ensures.notes

pub returns-then-has_no_signature-2 : goal.returns-then-has_no_signature-2
returns-then-has_no_signature-2 c =
    members_unsigned c.args.name.now c.args.old.now c.args.new.now c.new.result.items c.new.ensures.items (c.has_no_signature.ensures c.if-has_no_signature.true) (c.has_no_signature-then-has_no_signature.ensures c.if-has_no_signature-2.true)
