use Rattle.std.proofs.Common.{◌≡◌, ◌-◌, ◌+◌, suc, None, arith}
use Rattle.jc_facts.specs.world.World.{size}
use Rattle.jc_index.specs.Ids.{name_at}
use Rattle.jc_exposed.specs.Exposing.{is_wanted, opens_of}
use Rattle.jc_exposed.proofs.AboveFinds.{ahead_starts, ahead_more, ahead_top, ahead_out}
use Rattle.jc_exposed.proofs.exposing.found_above.Goals as goal

pub loop-done-init : goal.loop-done-init
loop-done-init c = (c.requires.«class», ahead_starts c.args.table.now (is_wanted c.args.own.now) (opens_of c.args.table.now (name_at c.args.table.now c.args.class)) c.args.class (size c.args.table.now - 0) c.new-members.result.items (omega arith) c.new-members.ensures.items)

pub returns-in_default : goal.returns-in_default
returns-in_default c =
    let e : c.loop-done.next ≡ None = cc in
    ahead_top c.args.table.now (is_wanted c.args.own.now) (opens_of c.args.table.now (name_at c.args.table.now c.args.class)) (name_at c.args.table.now c.args.class) (size c.args.table.now - c.loop-done.done) c.loop-done.next c.loop-done.members.items e c.loop-done.invariant.1

pub loop-done-preserved : goal.loop-done-preserved
loop-done-preserved c =
    let q : size c.args.table.now - c.loop-done.done ≡ suc (size c.args.table.now - (c.loop-done.done + 1)) = omega (arith, c.count-done-end.ensures.count) in (
      c.superclass-next.ensures.of_table,
      ahead_more c.args.table.now (is_wanted c.args.own.now) (opens_of c.args.table.now (name_at c.args.table.now c.args.class)) (name_at c.args.table.now c.args.class) (size c.args.table.now - c.loop-done.done) (size c.args.table.now - (c.loop-done.done + 1))
          c.in-Some.id c.loop-done.next c.superclass-next.result c.facts-facts.result.now c.interfaces.result.now c.loop-done.members.items c.in_ok-found_at.field-0.items c.append.new.self.items c.in_ok-found_at_all.field-0.items c.append-in-loop-done.new.self.items
          q c.in-Some.is c.facts-facts.ensures c.interfaces.ensures c.superclass-next.ensures.value c.in_ok-append.ensures.items c.in_ok-append-2.ensures.items c.in_ok-found_at.ensures c.in_ok-found_at_all.ensures c.loop-done.invariant.1,
    )

pub returns : goal.returns
returns c =
    let z : size c.args.table.now - c.loop-done.done ≡ 0 = omega (arith, c.count-done-end.ensures.count) in
    ahead_out c.args.table.now (is_wanted c.args.own.now) (opens_of c.args.table.now (name_at c.args.table.now c.args.class)) (name_at c.args.table.now c.args.class) (size c.args.table.now - c.loop-done.done) c.loop-done.next c.loop-done.members.items z c.loop-done.invariant.1
