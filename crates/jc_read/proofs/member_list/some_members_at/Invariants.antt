use Rattle.std.proofs.Common.{◌≡◌, ◌-◌, []}
use Rattle.jc_facts.specs.file.ClassSteps.{members_at}
use Rattle.jc_attr.specs.steps.Front.{with_front}
use Rattle.jc_read.specs.steps.MemberViews.{members_view, read_keys}
use Rattle.jc_facts.specs.Seen.{Holds}
use Rattle.jc_read.proofs.member_list.some_members_at.Given as goal

abbrev pub invariant-loop : goal.invariant-loop
invariant-loop l = (l.kept.long ≡ l.pool) × Holds l.kept.keys (read_keys (members_view l.reads.items)) × (with_front (members_view l.reads.items) (members_at l.method l.pool l.class (read_keys (members_view l.reads.items)) (l.count - l.counter) l.rest) ≡ members_at l.method l.pool l.class [] l.count l.bytes)
