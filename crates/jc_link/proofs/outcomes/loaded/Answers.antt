use Rattle.jc_link.proofs.Named.{loaded_none, loaded_fault, loaded_ok}
use Rattle.jc_link.proofs.outcomes.loaded.Goals as goal

pub returns-in_default : goal.returns-in_default
returns-in_default c = loaded_none c.args.table.now c.args.name.now c.in_default.ensures.value

pub returns-in-Some-fault_at : goal.returns-in-Some-fault_at
returns-in-Some-fault_at c = loaded_fault c.args.table.now c.args.name.now c.in-Some.class c.in-Some-fault_at.error c.in-Some.ensures.value c.in-Some-fault_at.ensures

pub returns-in-None : goal.returns-in-None
returns-in-None c = loaded_ok c.args.table.now c.args.name.now c.in-Some.class c.in-Some.ensures.value c.in-None.ensures
