use Rattle.std.proofs.Common.{◌≡◌, ◌<◌, ◌≤◌, sym, ap, subst, ◌∙◌, nat_lt, arith, ℕ}
use Rattle.jc_acts.specs.Touched.{AreSet}
use Rattle.jc_facts.specs.world.World.{size}
use Rattle.jc_facts.proofs.Options.{some_where-is}
use Rattle.jc_sides.specs.SidesOf.{SidesOf}
use Rattle.jc_index.specs.Ids.{name_at}
use Rattle.jc_call_lines.specs.steps.JoinLines.{left_by}
use Rattle.jc_call_lines.proofs.JoinLeft.{left_start, left_next, left_all}
use Rattle.jc_call_lines.proofs.joins.set_left.Goals as goal

pub loop-n-init : goal.loop-n-init
loop-n-init c = left_start c.args.sides.now c.args.flags.now.items c.requires.flags

pub set_left_by-requires-clause-flags : goal.set_left_by-requires-clause-flags
set_left_by-requires-clause-flags c = c.loop-n.invariant.count

pub loop-n-preserved : goal.loop-n-preserved
loop-n-preserved c =
    let s : SidesOf = c.args.sides.now in
    let v : size c.sides.inside.old.now ≡ size s.old = ap (λ (u : SidesOf). size u.old) c.sides.view_is in
    let l : c.loop-n.n < size s.old = omega (arith, c.count-n-end.ensures.count) in
    let k : c.unwrap-id.result ≡ c.loop-n.n = some_where-is (nat_lt c.loop-n.n (size c.sides.inside.old.now)) c.loop-n.n c.unwrap-id.result (sym c.id.ensures.value ∙ c.unwrap-id.ensures) in
    left_next s c.loop-n.n c.args.flags.now.items c.loop-n.flags.items c.set_left_by.new.flags.items l c.loop-n.invariant
    (subst (λ (m : ℕ). AreSet s.old (λ t. left_by s t (name_at s.old m)) c.loop-n.flags.items c.set_left_by.new.flags.items) k c.set_left_by.ensures)

pub returns : goal.returns
returns c =
    let s : SidesOf = c.args.sides.now in
    let v : size c.sides.inside.old.now ≡ size s.old = ap (λ (u : SidesOf). size u.old) c.sides.view_is in
    let l : size s.old ≤ c.loop-n.n = omega (arith, c.count-n-end.ensures.count) in
    left_all s c.loop-n.n c.args.flags.now.items c.loop-n.flags.items l c.requires.clear c.loop-n.invariant
