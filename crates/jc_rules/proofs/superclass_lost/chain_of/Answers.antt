use Rattle.std.proofs.Common.{◌≡◌, ◌+◌, ◌-◌, ℕ, suc, Option, Some, sym, subst, refl, arith}
use Rattle.jc_facts.specs.Names.{Bytes}
use Rattle.jc_facts.specs.world.World.{World, size}
use Rattle.jc_index.specs.Ids.{name_at}
use Rattle.jc_rules.proofs.ChainWalk.{HasWalked, walk_starts, walk_steps, walked_all}
use Rattle.jc_rules.proofs.superclass_lost.chain_of.Goals as goal

pub loop-init : goal.loop-init
loop-init c = walk_starts c.args.table.now c.args.id (size c.args.table.now - 0) c.new-chain.result c.requires (omega arith) c.new-chain.ensures.ordered (λ q. rw c.new-chain.ensures.empty refl)

pub loop-preserved : goal.loop-preserved
loop-preserved c =
    let W : World = c.args.table.now in
    let x : Bytes = name_at c.args.table.now c.args.id in
    let e : size c.args.table.now - c.loop.counter ≡ suc (size c.args.table.now - (c.loop.counter + 1)) = omega (arith, c.count-end.ensures.count) in
    let h : HasWalked c.args.table.now x (size c.args.table.now - c.loop.counter) (Some c.in-Some.class) c.loop.chain =
    subst (λ (o : Option ℕ). HasWalked c.args.table.now x (size c.args.table.now - c.loop.counter) o c.loop.chain) c.in-Some.is c.loop.invariant in
    subst (λ (o : Option ℕ). HasWalked c.args.table.now x (size c.args.table.now - (c.loop.counter + 1)) o c.insert.new.self) (sym c.superclass-next.ensures.value)
    (walk_steps W c.count-end.ensures.side x (size c.args.table.now - c.loop.counter) (size c.args.table.now - (c.loop.counter + 1)) c.in-Some.class c.loop.chain c.insert.new.self e h c.in_ok-insert.ensures.updates c.in_ok-insert.ensures.ordered)

pub returns : goal.returns
returns c =
    let z : size c.args.table.now - c.loop.counter ≡ 0 = omega (arith, c.count-end.ensures.count) in
    walked_all c.args.table.now (name_at c.args.table.now c.args.id) (size c.args.table.now - c.loop.counter) c.loop.next c.loop.chain z c.loop.invariant
