use Rattle.std.proofs.Common.{◌≡◌, ◌<◌, ◌≤◌, Bool, arith, ap, nat_lt, sym, ◌∙◌}
use Rattle.jc_facts.specs.Names.{Bytes}
use Rattle.jc_facts.specs.world.World.{size}
use Rattle.jc_facts.proofs.Options.{some_where-is}
use Rattle.jc_index.specs.Ids.{name_at}
use Rattle.jc_exposed.specs.Exposing.{opens_usable}
use Rattle.jc_exposed.proofs.FirstThrough.{none_more, none_at_all, first_here}
use Rattle.jc_exposed.proofs.first_act.first_through.Goals as goal

pub loop-n-preserved : goal.loop-n-preserved
loop-n-preserved c =
    let p : Bytes → Bool = λ x. opens_usable c.args.table.now x (name_at c.args.table.now c.args.seat) c.args.exposed in
    let l : c.loop-n.n < size c.args.table.now = omega (arith, c.count-n-end.ensures.count) in
    let k : c.unwrap-class.result ≡ c.loop-n.n = some_where-is (nat_lt c.loop-n.n (size c.args.table.now)) c.loop-n.n c.unwrap-class.result (sym c.id.ensures.value ∙ c.unwrap-class.ensures) in
    none_more c.args.table.now p c.loop-n.n l (ap (λ m. p (name_at c.args.table.now m)) (sym k) ∙ sym c.in_ok-passes.ensures ∙ c.if-passes.false) c.loop-n.invariant

pub returns-then-passes : goal.returns-then-passes
returns-then-passes c =
    let p : Bytes → Bool = λ x. opens_usable c.args.table.now x (name_at c.args.table.now c.args.seat) c.args.exposed in
    let l : c.loop-n.n < size c.args.table.now = omega (arith, c.count-n-end.ensures.count) in
    let k : c.unwrap-class.result ≡ c.loop-n.n = some_where-is (nat_lt c.loop-n.n (size c.args.table.now)) c.loop-n.n c.unwrap-class.result (sym c.id.ensures.value ∙ c.unwrap-class.ensures) in
    first_here c.args.table.now p c.loop-n.n c.unwrap-class.result k l (sym c.in_ok-passes.ensures ∙ c.if-passes.true) c.loop-n.invariant

pub returns : goal.returns
returns c =
    let p : Bytes → Bool = λ x. opens_usable c.args.table.now x (name_at c.args.table.now c.args.seat) c.args.exposed in
    let l : size c.args.table.now ≤ c.loop-n.n = omega (arith, c.count-n-end.ensures.count) in
    none_at_all c.args.table.now p c.loop-n.n l c.loop-n.invariant
