use Rattle.std.proofs.Common.{get_or, refl, sym}
use Rattle.jc_index.proofs.Queues.{there, past}
use Rattle.jc_index.proofs.reach.is_queued.Goals as goal

pub returns-in-Some : goal.returns-in-Some
returns-in-Some c =
    let found = c.in-Some.ensures.lookup in
    there c.args.places.now c.args.queue.now c.requires.places c.args.id (get_or c.args.places.now c.args.id 0) refl c.in-Some.there.now found.3.0 (sym found.1)

pub returns-in-None : goal.returns-in-None
returns-in-None c = past c.args.places.now c.args.queue.now c.requires.places c.args.id (get_or c.args.places.now c.args.id 0) refl c.in-None.ensures.lookup.3
