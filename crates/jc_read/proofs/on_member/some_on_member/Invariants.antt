use Rattle.std.proofs.Common.{◌≡◌, ◌-◌}
use Rattle.jc_facts.specs.file.ClassSteps.{attributes_at, member_takes, nothing_on_member}
use Rattle.jc_read.specs.steps.OnMemberView.{on_member_view}
use Rattle.jc_read.proofs.on_member.some_on_member.Given as goal

abbrev pub invariant-loop : goal.invariant-loop
invariant-loop l = attributes_at (member_takes l.method l.pool) l.pool (l.count - l.counter) (on_member_view l.found) l.rest ≡ attributes_at (member_takes l.method l.pool) l.pool l.count nothing_on_member l.bytes
