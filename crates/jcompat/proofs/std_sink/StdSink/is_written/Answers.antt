use Rattle.std.proofs.Common.{rules}
use Rattle.jcompat.proofs.Written.{goes_on, stops, stops_short}
use Rattle.jcompat.proofs.std_sink.StdSink.is_written.Goals as goal

pub loop-rest-preserved : goal.loop-rest-preserved
loop-rest-preserved g c = (c.loop-rest.invariant.0, goes_on _ _ _ _ _ c.in-Ok.count c.loop-rest.invariant.1 c.in-Ok.ensures.bytes)

pub returns-in_default-clause-written : goal.returns-in_default-clause-written
returns-in_default-clause-written g c = stops_short _ _ _ _ _ c.in-Ok.count (let none = c.if-count-gt0.false in search rules) c.loop-rest.invariant.1 c.in-Ok.ensures.bytes

pub returns-in_default-2-clause-written : goal.returns-in_default-2-clause-written
returns-in_default-2-clause-written g c = stops _ _ _ _ _ c.loop-rest.invariant.1 c.in_default.ensures.bytes
