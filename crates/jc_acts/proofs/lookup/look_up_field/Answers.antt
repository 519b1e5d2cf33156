use Rattle.std.proofs.Common.{subst}
use Rattle.jc_facts.specs.world.Lookup.{field_found}
use Rattle.jc_index.specs.Ids.{name_at}
use Rattle.jc_index.specs.Lookups.{IsAnswer}
use Rattle.jc_acts.proofs.LookedUp.{field_member, field_fault}
use Rattle.jc_acts.proofs.lookup.look_up_field.Goals as goal

pub returns-in-Some-clause-found : goal.returns-in-Some-clause-found
returns-in-Some-clause-found c =
    field_member c.args.table.now (name_at c.args.table.now c.args.class) c.args.key.now c.in-Some.found
    (subst (λ o. IsAnswer c.args.table.now o (field_found c.args.table.now (name_at c.args.table.now c.args.class) c.args.key.now)) c.in-Some.is c.find_field_by_number.ensures)

pub returns-in-None-clause-found : goal.returns-in-None-clause-found
returns-in-None-clause-found c =
    field_fault c.args.table.now (name_at c.args.table.now c.args.class) c.args.key.now
    (subst (λ o. IsAnswer c.args.table.now o (field_found c.args.table.now (name_at c.args.table.now c.args.class) c.args.key.now)) c.in-None.is c.find_field_by_number.ensures)
