use Rattle.std.proofs.Common.{◌<◌, arith, ◌∙◌, ap, length, refl, subst, sym}
use Rattle.std.proofs.lemmas.List.{get_or_read_under}
use Rattle.std.proofs.lemmas.List.Elements.{All-get_or}
use Rattle.jc_facts.specs.world.World.{size}
use Rattle.jc_exposed.specs.Exposed.{start_at}
use Rattle.jc_exposed.proofs.SeatStarts.{later_start}
use Rattle.jc_exposed.proofs.exposed.last_start.Goals as goal

pub loop-id-preserved : goal.loop-id-preserved
loop-id-preserved c =
    let below : c.id-item.result < size c.args._sides.now.old = subst (λ n. n < size c.args._sides.now.old) (sym c.id-item.is) (All-get_or (λ n. n < size c.args._sides.now.old) c.args.hidden.now c.loop-id.id-index c.id-item.result c.loop-id-test.true c.requires.ids) in
    let l : c.number.result < length c.args.exposed.now.starts.items = omega (arith, c.number.ensures, below, c.requires.exposed.starts.count) in
    let k = get_or_read_under c.args.exposed.now.starts.items c.number.result (length c.args.exposed.now.starts.items) c.index.result.now 0 c.index.ensures l refl ∙ ap (start_at c.args.exposed.now.starts.items) c.number.ensures in
    later_start c.args._sides.now c.args.exposed.now c.requires.exposed c.args.hidden.now c.requires.ids c.requires.hidden c.requires.wanted c.loop-id.id-index c.id-item.result c.id-item.result c.loop-id.start c.index.result.now c.later-start.result c.loop-id-test.true
    c.id-item.is k c.later-start.ensures c.loop-id.invariant
