use Rattle.jc_index.specs.Ids.{name_at}
use Rattle.jc_link.proofs.Named.{named_none, named_unloaded, named_closed, named_ok}
use Rattle.jc_link.proofs.class_step.class_of.Goals as goal

pub returns-in_default : goal.returns-in_default
returns-in_default c = named_none c.args.table.now (name_at c.args.table.now c.args.from) c.args.name.now c.in_default.ensures.value

pub returns-in-Some-fault_at : goal.returns-in-Some-fault_at
returns-in-Some-fault_at c =
    named_unloaded c.args.table.now (name_at c.args.table.now c.args.from) c.args.name.now c.in-Some.class c.in-Some-fault_at.error c.in-Some.ensures.value c.in-Some-fault_at.ensures

pub returns-then-not-class_access : goal.returns-then-not-class_access
returns-then-not-class_access c =
    named_closed c.args.table.now (name_at c.args.table.now c.args.from) c.args.name.now c.in-Some.class c.class_access.result c.in-Some.ensures.value c.in-None.ensures c.class_access.ensures.value
    c.if-not-class_access.true

pub returns : goal.returns
returns c =
    named_ok c.args.table.now (name_at c.args.table.now c.args.from) c.args.name.now c.in-Some.class c.class_access.result c.in-Some.ensures.value c.in-None.ensures c.class_access.ensures.value
    c.if-not-class_access.false
