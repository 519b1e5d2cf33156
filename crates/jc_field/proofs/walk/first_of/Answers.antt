use Rattle.std.proofs.Common.{arith, sym, ◌∙◌, ap}
use Rattle.jc_index.specs.Ids.{id_of}
use Rattle.jc_field.proofs.Steps.{ready_there, ready_at, given_here, given_next, given_end}
use Rattle.jc_field.proofs.walk.first_of.Goals as goal

pub returns-in_default : goal.returns-in_default
returns-in_default c =
    absurd (ready_there c.args.table.now c.args.names.now c.loop-name.name-index c.name-item.result c.requires.ready c.loop-name-test.true c.name-item.is
    (ap (id_of c.args.table.now) (sym c.as_bytes.ensures) ∙ sym c.get.ensures.value ∙ c.in_default.is))

pub has_field-requires-clause-kind : goal.has_field-requires-clause-kind
has_field-requires-clause-kind c =
    (ready_at c.args.table.now c.args.names.now c.loop-name.name-index c.name-item.result c.in-Some.interface c.requires.ready c.loop-name-test.true c.name-item.is
    (c.in-Some.ensures.value ∙ ap (id_of c.args.table.now) c.as_bytes.ensures)).0

pub has_field-requires-clause-loads : goal.has_field-requires-clause-loads
has_field-requires-clause-loads c =
    (ready_at c.args.table.now c.args.names.now c.loop-name.name-index c.name-item.result c.in-Some.interface c.requires.ready c.loop-name-test.true c.name-item.is
    (c.in-Some.ensures.value ∙ ap (id_of c.args.table.now) c.as_bytes.ensures)).1

pub returns-then-has_field : goal.returns-then-has_field
returns-then-has_field c =
    given_here c.args.table.now c.args.key.now c.args.names.now c.loop-name.name-index c.in-Some.interface c.name-item.result c.has_field.result c.loop-name-test.true c.name-item.is
    (c.in-Some.ensures.value ∙ ap (id_of c.args.table.now) c.as_bytes.ensures) c.loop-name.invariant c.has_field.ensures c.if-has_field.true

pub loop-name-preserved : goal.loop-name-preserved
loop-name-preserved c =
    given_next c.args.table.now c.args.key.now c.args.names.now c.loop-name.name-index c.in-Some.interface c.name-item.result c.has_field.result c.loop-name-test.true c.name-item.is
    (c.in-Some.ensures.value ∙ ap (id_of c.args.table.now) c.as_bytes.ensures) c.loop-name.invariant c.has_field.ensures c.if-has_field.false

pub returns : goal.returns
returns c = given_end c.args.table.now c.args.key.now c.args.names.now c.loop-name.name-index (omega (arith, c.loop-name-test.false)) c.loop-name.invariant
