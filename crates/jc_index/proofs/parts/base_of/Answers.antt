use Rattle.std.proofs.Common.{sym, slice_range}
use Rattle.jc_index.proofs.Shares.{from_first}
use Rattle.jc_index.proofs.parts.base_of.Goals as goal

pub returns-in-Some-parts-clause-led : goal.returns-in-Some-parts-clause-led
returns-in-Some-parts-clause-led c =
    let p = c.requires.parts.right c.in-Some.above c.in-Some-parts.part c.in-Some-parts.is in
    from_first c.args.edges.now c.args.n c.in-Some.above (slice_range c.args.ids.now c.in-Some-parts.part.start c.in-Some-parts.part.end) (sym c.in-Some.ensures.value) p.led
