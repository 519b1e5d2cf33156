use Rattle.std.proofs.Common.{subst}
use Rattle.jc_facts.specs.world.Lookup.{field_found}
use Rattle.jc_index.specs.Ids.{name_at}
use Rattle.jc_index.specs.Lookups.{IsAnswer}
use Rattle.jc_link.proofs.LookedUp.{field_member, field_none}
use Rattle.jc_link.proofs.lookup.field.Goals as goal

pub returns-in-Some : goal.returns-in-Some
returns-in-Some c = λ act e.
    field_member c.args.table.now act (name_at c.args.table.now c.args.class) c.args.key.now e c.in-Some.found
    (subst (λ o. IsAnswer c.args.table.now o (field_found c.args.table.now (name_at c.args.table.now c.args.class) c.args.key.now)) c.in-Some.is c.find_field.ensures)

pub returns-in-None : goal.returns-in-None
returns-in-None c = λ act e.
    field_none c.args.table.now act (name_at c.args.table.now c.args.class) c.args.key.now e
    (subst (λ o. IsAnswer c.args.table.now o (field_found c.args.table.now (name_at c.args.table.now c.args.class) c.args.key.now)) c.in-None.is c.find_field.ensures)
