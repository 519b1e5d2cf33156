use Rattle.jc_index.proofs.Sealing.{one-more}
use Rattle.jc_index.proofs.seals.push_seal.Goals as goal

pub returns : goal.returns
returns c =
    rw c.in_ok-push.ensures.items
    (one-more c.args.classes.now c.args.seals.now.items (record { owner = c.args.id; names = c.in_ok-set.set }) c.facts.result.now c.in-Some.names.now c.requires.seals c.facts.ensures
    c.in-Some.ensures c.in_ok-set.ensures)
