use Rattle.std.proofs.Common.{◌≡◌, ◌<◌, ◌≤◌, sym, ap, subst, ◌∙◌, nat_lt, arith, Some}
use Rattle.jc_facts.specs.Options.{some_where}
use Rattle.jc_facts.specs.world.World.{World, size}
use Rattle.jc_sides.specs.SidesOf.{SidesOf}
use Rattle.jc_call_lines.specs.steps.JoinLines.{is_target}
use Rattle.jc_call_lines.proofs.JoinLeft.{passing_start, passing_more, passing_all}
use Rattle.jc_call_lines.proofs.joins.targets.Goals as goal

pub loop-n-init : goal.loop-n-init
loop-n-init c = passing_start c.args.sides.now.old (is_target c.args.sides.now) c.new-targets.result.items c.new-targets.ensures.items

pub loop-n-preserved : goal.loop-n-preserved
loop-n-preserved c =
    let s : SidesOf = c.args.sides.now in
    let v : c.sides.inside.old.now ≡ s.old = ap (λ (u : SidesOf). u.old) c.sides.view_is in
    let i : c.loop-n.n < size c.sides.inside.old.now = omega (arith, c.count-n-end.ensures.count) in
    let l : c.loop-n.n < size s.old = subst (λ (V : World). c.loop-n.n < size V) v i in
    passing_more s.old (is_target s) c.loop-n.n c.unwrap-id.result c.loop-n.targets.items c.push_some.new.items.items c.target.result l
    (subst (λ (V : World). some_where (nat_lt c.loop-n.n (size V)) c.loop-n.n ≡ Some c.unwrap-id.result) v (sym c.id.ensures.value ∙ c.unwrap-id.ensures)) c.loop-n.invariant c.target.ensures c.in_ok-push_some.ensures

pub returns : goal.returns
returns c =
    let s : SidesOf = c.args.sides.now in
    let v : c.sides.inside.old.now ≡ s.old = ap (λ (u : SidesOf). u.old) c.sides.view_is in
    let i : size c.sides.inside.old.now ≤ c.loop-n.n = omega (arith, c.count-n-end.ensures.count) in
    record { within = c.loop-n.invariant.within; names = passing_all s.old (is_target s) c.loop-n.n c.loop-n.targets.items (subst (λ (V : World). size V ≤ c.loop-n.n) v i) c.loop-n.invariant }
