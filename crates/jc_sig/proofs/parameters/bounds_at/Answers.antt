use Rattle.std.proofs.Common.{◌-◌, ◌+◌, length, map, arith, sym}
use Rattle.std.proofs.lemmas.List.{map_push}
use Rattle.jc_sig.specs.Reading.{bounds_from}
use Rattle.jc_sig.specs.Views.{type_view}
use Rattle.jc_sig.proofs.Rows.{bounds_more, bounds_end, bounds_bad, bounds_out}
use Rattle.jc_sig.proofs.parameters.bounds_at.Goals as goal

pub returns-in_default : goal.returns-in_default
returns-in_default c = bounds_end (map type_view c.loop.bounds.items) (length c.args.bytes.now - c.loop.counter) c.loop.rest.now (bounds_from (length c.args.bytes.now) c.args.bytes.now) c.loop.invariant (omega arith) (sym c.in_default.ensures)

pub returns-in_default-2 : goal.returns-in_default-2
returns-in_default-2 c = bounds_bad (map type_view c.loop.bounds.items) (length c.args.bytes.now - c.loop.counter) c.loop.rest.now (bounds_from (length c.args.bytes.now) c.args.bytes.now) c.loop.invariant
    c.in-Some.behind.now (omega arith) (sym c.in-Some.ensures) (sym (rw c.in_default-2.is at c.in_ok-bound.ensures))

pub loop-preserved : goal.loop-preserved
loop-preserved c = rw (c.in_ok-push.ensures.items, map_push type_view c.loop.bounds.items c.in-Some-2.bound)
    (bounds_more (map type_view c.loop.bounds.items) (length c.args.bytes.now - c.loop.counter) c.loop.rest.now (bounds_from (length c.args.bytes.now) c.args.bytes.now) c.loop.invariant
    (length c.args.bytes.now - (c.loop.counter + 1)) c.in-Some.behind.now (type_view c.in-Some-2.bound) c.in-Some-2.next.now (omega arith) (sym c.in-Some.ensures) (sym (rw c.in-Some-2.is at c.in_ok-bound.ensures)))

pub returns : goal.returns
returns c = bounds_out (map type_view c.loop.bounds.items) (length c.args.bytes.now - c.loop.counter) c.loop.rest.now (bounds_from (length c.args.bytes.now) c.args.bytes.now) c.loop.invariant (omega arith)
