use Rattle.std.proofs.Common.{◌≡◌, [], sym, ap, ◌∙◌, nat_lt, arith}
use Rattle.jc_facts.specs.world.World.{size}
use Rattle.jc_facts.proofs.Options.{some_where-is}
use Rattle.jc_index.specs.Ids.{name_at}
use Rattle.jc_sides.specs.SidesOf.{SidesOf}
use Rattle.jc_select.proofs.LostRows.{done_none, done_more, done_all}
use Rattle.jc_select.specs.steps.Losing.{IsSetOf, loses_at}
use Rattle.jc_select.proofs.losing.held_sets.Goals as goal

pub loop-n-init : goal.loop-n-init
loop-n-init c = done_none (record { keys = [] }) (λ n set. IsSetOf (loses_at c.args.sides.now (name_at c.args.sides.now.old n)) set) c.in_ok-held.held.items c.in_ok-held.ensures.items

pub loop-n-preserved : goal.loop-n-preserved
loop-n-preserved c =
    let k : c.unwrap-id.result ≡ c.loop-n.n = some_where-is (nat_lt c.loop-n.n (size c.sides.inside.old.now)) c.loop-n.n c.unwrap-id.result (sym c.id.ensures.value ∙ c.unwrap-id.ensures) in
    done_more (record { keys = [] }) (λ n set. IsSetOf (loses_at c.args.sides.now (name_at c.args.sides.now.old n)) set)
    c.loop-n.n c.unwrap-id.result c.loop-n.held.items c.push.new.self.items c.in_ok-set.set k c.in_ok-push.ensures.items c.in_ok-set.ensures c.loop-n.invariant

pub returns : goal.returns
returns c =
    let v : size c.sides.inside.old.now ≡ size c.args.sides.now.old = ap (λ (s : SidesOf). size s.old) c.sides.view_is in
    let l : c.loop-n.n ≡ size c.args.sides.now.old = omega (arith, c.count-n-end.ensures.count) in
    done_all (record { keys = [] }) (λ n set. IsSetOf (loses_at c.args.sides.now (name_at c.args.sides.now.old n)) set) c.loop-n.n (size c.args.sides.now.old) c.loop-n.held.items l c.loop-n.invariant
