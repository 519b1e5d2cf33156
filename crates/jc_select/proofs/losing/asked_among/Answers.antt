use Rattle.std.proofs.Common.{◌≡◌, false, sym, ap, ◌∙◌, nat_lt, arith}
use Rattle.jc_facts.specs.world.World.{size}
use Rattle.jc_facts.proofs.Options.{some_where-is}
use Rattle.jc_sides.specs.SidesOf.{SidesOf}
use Rattle.jc_select.proofs.LostRows.{done_none, done_more, done_all}
use Rattle.jc_select.specs.steps.Losing.{is_asked}
use Rattle.jc_select.proofs.losing.asked_among.Goals as goal

pub loop-n-init : goal.loop-n-init
loop-n-init c = done_none false (λ n b. b ≡ is_asked c.args.sides.now c.args.rows.now n) c.in_ok-marks.marks.items c.in_ok-marks.ensures.items

pub loop-n-preserved : goal.loop-n-preserved
loop-n-preserved c =
    let k : c.unwrap-id.result ≡ c.loop-n.n = some_where-is (nat_lt c.loop-n.n (size c.sides.inside.old.now)) c.loop-n.n c.unwrap-id.result (sym c.id.ensures.value ∙ c.unwrap-id.ensures) in
    done_more false (λ n b. b ≡ is_asked c.args.sides.now c.args.rows.now n)
    c.loop-n.n c.unwrap-id.result c.loop-n.marks.items c.push.new.self.items c.is_asked.result k c.in_ok-push.ensures.items c.is_asked.ensures c.loop-n.invariant

pub returns : goal.returns
returns c =
    let v : size c.sides.inside.old.now ≡ size c.args.sides.now.old = ap (λ (s : SidesOf). size s.old) c.sides.view_is in
    let l : c.loop-n.n ≡ size c.args.sides.now.old = omega (arith, c.count-n-end.ensures.count) in
    done_all false (λ n b. b ≡ is_asked c.args.sides.now c.args.rows.now n) c.loop-n.n (size c.args.sides.now.old) c.loop-n.marks.items l c.loop-n.invariant
