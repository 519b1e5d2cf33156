use Rattle.std.proofs.Common.{length}
use Rattle.std.proofs.lemmas.List.{map_push}
use Rattle.jc_used.proofs.Chains.{one_more, ends_above}
use Rattle.jc_used.specs.Above.{chain_of}
use Rattle.jc_used.proofs.above.Above.chain.Goals as goal

pub loop-preserved : goal.loop-preserved
loop-preserved c =
    rw (c.in_ok-push-in-Some.ensures.items, map_push (λ c. c.now) c.loop.classes.items c.in-Some.client, c.client_above-next.ensures)
    (one_more c.args.clients.now (length c.args.clients.now) c.loop.counter _ c.in-Some.client.now _ c.loop-test.true (rw c.in-Some.is at c.loop.invariant))

pub returns-in-None : goal.returns-in-None
unfolding chain_of
returns-in-None c = ends_above c.args.clients.now _ _ _ (rw c.in-None.is at c.loop.invariant)
