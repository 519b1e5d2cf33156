use Rattle.std.proofs.Common.{◌≡◌, ◌<◌, ◌-◌, ◌+◌, ℕ, suc, Option, None, subst, arith}
use Rattle.std.specs.Prelude.{IfSome}
use Rattle.jc_facts.specs.world.World.{size}
use Rattle.jc_select.proofs.ChainKeys.{passing_start, passing_more, passing_out, passing_end}
use Rattle.jc_select.proofs.walks.add_chain.Goals as goal

pub loop-done-init : goal.loop-done-init
loop-done-init c = passing_start c.args.table.now c.args.first c.args.levels (c.args.levels - 0) c.args.keys.now.items c.requires (omega arith)

pub returns-in_default : goal.returns-in_default
returns-in_default c =
    let e : c.loop-done.next ≡ None = cc in
    passing_out c.args.table.now c.args.first c.args.levels (c.args.levels - c.loop-done.done) c.loop-done.next c.args.keys.now.items c.loop-done.keys.items e c.loop-done.invariant

pub loop-done-preserved : goal.loop-done-preserved
loop-done-preserved c =
    let m = c.args.levels - c.loop-done.done in
    let q : m ≡ suc (c.args.levels - (c.loop-done.done + 1)) = omega arith in
    passing_more c.args.table.now c.count-classes.ensures.side c.args.first c.args.levels m (c.args.levels - (c.loop-done.done + 1)) c.in-Some.class c.loop-done.next c.superclass-next.result c.args.keys.now.items c.loop-done.keys.items c.add_own.new.keys.items
    q c.in-Some.is (subst (λ (o : Option ℕ). IfSome o (λ id. id < size c.args.table.now)) c.in-Some.is c.loop-done.invariant.below) c.superclass-next.ensures.value c.superclass-next.ensures.of_table c.in_ok-add_own.ensures c.loop-done.invariant

pub returns : goal.returns
returns c =
    let z : c.args.levels - c.loop-done.done ≡ 0 = omega arith in
    passing_end c.args.table.now c.args.first c.args.levels (c.args.levels - c.loop-done.done) c.loop-done.next c.args.keys.now.items c.loop-done.keys.items z c.loop-done.invariant
