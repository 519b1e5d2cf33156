use Rattle.std.proofs.Common.{◌-◌, ◌+◌, length, map, arith, sym}
use Rattle.std.proofs.lemmas.List.{map_push}
use Rattle.jc_sig.specs.Reading.{parameters_from}
use Rattle.jc_sig.specs.Views.{parameter_view}
use Rattle.jc_sig.proofs.Rows.{parameters_more, parameters_end, parameters_bad, parameters_out}
use Rattle.jc_sig.proofs.parameters.parameters_at.Goals as goal

pub returns-in-Some : goal.returns-in-Some
returns-in-Some c = parameters_end (map parameter_view c.loop.parameters.items) (length c.args.bytes.now - c.loop.counter) c.loop.rest.now (parameters_from (length c.args.bytes.now) c.args.bytes.now) c.loop.invariant c.in-Some.behind.now (omega arith) (sym c.in-Some.ensures)

pub returns-in_default-2 : goal.returns-in_default-2
returns-in_default-2 c = parameters_bad (map parameter_view c.loop.parameters.items) (length c.args.bytes.now - c.loop.counter) c.loop.rest.now (parameters_from (length c.args.bytes.now) c.args.bytes.now) c.loop.invariant (omega arith) (sym c.in_default.ensures) (sym (rw c.in_default-2.is at c.in_ok-parameter.ensures))

pub loop-preserved : goal.loop-preserved
loop-preserved c = rw (c.in_ok-push.ensures.items, map_push parameter_view c.loop.parameters.items c.in-Some-2.parameter)
    (parameters_more (map parameter_view c.loop.parameters.items) (length c.args.bytes.now - c.loop.counter) c.loop.rest.now (parameters_from (length c.args.bytes.now) c.args.bytes.now) c.loop.invariant
    (length c.args.bytes.now - (c.loop.counter + 1)) (parameter_view c.in-Some-2.parameter) c.in-Some-2.next.now (omega arith) (sym c.in_default.ensures) (sym (rw c.in-Some-2.is at c.in_ok-parameter.ensures)))

pub returns : goal.returns
returns c = parameters_out (map parameter_view c.loop.parameters.items) (length c.args.bytes.now - c.loop.counter) c.loop.rest.now (parameters_from (length c.args.bytes.now) c.args.bytes.now) c.loop.invariant (omega arith)
