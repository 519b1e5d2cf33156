use Rattle.std.proofs.Common.{◌≡◌, ◌∙◌, arith, nat_lt, sym, subst}
use Rattle.jc_facts.specs.world.World.{size}
use Rattle.jc_facts.proofs.Options.{some_where-is}
use Rattle.jc_exposed.specs.Lengths.{HaveLengths}
use Rattle.jc_exposed.proofs.MarkedLengths.{lengths_next}
use Rattle.jc_exposed.proofs.lengths.lengths_of.Goals as goal

pub loop-n-init : goal.loop-n-init
loop-n-init c = λ t l o. absurd (omega (arith, l))

pub loop-n-preserved : goal.loop-n-preserved
loop-n-preserved c =
    let k : c.unwrap-id.result ≡ c.loop-n.n = some_where-is (nat_lt c.loop-n.n (size c.args.table.now)) c.loop-n.n c.unwrap-id.result (sym c.id.ensures.value ∙ c.unwrap-id.ensures) in
    lengths_next c.args.table.now c.args.wanted.now c.loop-n.lengths.items c.mark_wanted.new.lengths.items c.loop-n.n c.unwrap-id.result k c.mark_wanted.ensures.kept c.mark_wanted.ensures.marked c.loop-n.invariant

pub returns : goal.returns
returns c =
    let n : c.loop-n.n ≡ size c.args.table.now = omega (arith, c.count-n-end.ensures.count) in
    subst (λ m. HaveLengths c.args.table.now c.args.wanted.now m c.loop-n.lengths.items) n c.loop-n.invariant
