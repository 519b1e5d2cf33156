use Rattle.std.proofs.Common.{List, [], ◌-◌, ◌+◌, arith, sym, subst}
use Rattle.std.proofs.lemmas.List.{map_push}
use Rattle.jc_facts.specs.declared.key.Key.{Key}
use Rattle.jc_facts.specs.file.ClassParts as files
use Rattle.jc_facts.specs.file.ClassSteps.{members_at}
use Rattle.jc_facts.specs.Seen.{Holds}
use Rattle.jc_read.specs.steps.MemberViews.{member_view, members_view, read_keys}
use Rattle.jc_read.proofs.EachMember.{members_step, members_fault, members_done, step_keys}
use Rattle.jc_read.proofs.member_list.some_members_at.Goals as goal

pub returns-in-Err : goal.returns-in-Err
returns-in-Err c =
    let front : List files.ReadMember = members_view c.loop.reads.items in
    let e = rw c.in-Err.is at (c.in_ok-member.ensures.value (read_keys front) c.loop.invariant.1) in
    members_fault c.args.method c.args.pool.now c.args.class front (read_keys front) (c.args.count - c.loop.counter) c.loop.rest.now c.in-Err.fault (members_at c.args.method c.args.pool.now c.args.class [] c.args.count c.args.bytes.now) (omega arith) (sym e.0) c.loop.invariant.2

pub loop-preserved : goal.loop-preserved
loop-preserved c =
    let front : List files.ReadMember = members_view c.loop.reads.items in
    let x : files.ReadMember = member_view c.in-Ok.member.0 in
    let e = rw c.in-Ok.is at (c.in_ok-member.ensures.value (read_keys front) c.loop.invariant.1) in
    rw (c.in_ok-push.ensures.items, map_push member_view c.loop.reads.items c.in-Ok.member.0) (
      c.member_at.ensures.same,
      subst (λ (ks : List Key). Holds c.member_at.new.kept.keys ks) (sym (step_keys front x)) e.1,
      members_step c.args.method c.args.pool.now c.args.class front (c.args.count - c.loop.counter) (c.args.count - (c.loop.counter + 1)) c.loop.rest.now x c.in-Ok.member.1.now (members_at c.args.method c.args.pool.now c.args.class [] c.args.count c.args.bytes.now) (omega arith) (sym e.0) c.loop.invariant.2,
    )

pub returns : goal.returns
returns c =
    let front : List files.ReadMember = members_view c.loop.reads.items in
    members_done c.args.method c.args.pool.now c.args.class front (read_keys front) (c.args.count - c.loop.counter) c.loop.rest.now (members_at c.args.method c.args.pool.now c.args.class [] c.args.count c.args.bytes.now) (omega arith) c.loop.invariant.2
