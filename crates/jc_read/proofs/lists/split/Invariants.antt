use Rattle.std.proofs.Common.{◌≡◌, ◌++◌}
use Rattle.jc_facts.specs.file.ClassParts.{members_of, constants_of, signatures_of}
use Rattle.jc_read.specs.steps.MemberViews.{members_view}
use Rattle.jc_read.proofs.lists.split.Given as goal

abbrev pub invariant-loop-read : goal.invariant-loop-read
invariant-loop-read l = record {
  members : l.members.items ++ members_of (members_view l.read-iterator.rest.items) ≡ members_of (members_view l.fn.reads.items);
  constants : l.constants.items ++ constants_of (members_view l.read-iterator.rest.items) ≡ l.fn.constants.items ++ constants_of (members_view l.fn.reads.items);
  signatures : l.signatures.items ++ signatures_of (members_view l.read-iterator.rest.items) ≡ l.fn.signatures.items ++ signatures_of (members_view l.fn.reads.items);
}
