use Rattle.std.proofs.Common.{subst, ◌∙◌, ap, map, None, Result, Ok, Err}
use Rattle.jc_facts.specs.declared.link_error.LinkError.{LinkError}
use Rattle.jc_index.specs.declared.ids.Found.{Found}
use Rattle.jc_sides.specs.SharedFields.{shared_of}
use Rattle.jc_sides.specs.SidesFields.{worlds}
use Rattle.jc_sides.specs.SharedOf.{name_of}
use Rattle.jc_acts.specs.declared.lookup.Looked.{Looked}
use Rattle.jc_acts.specs.steps.Firsts.{first_pair}
use Rattle.jc_acts.specs.steps.LookedUp.{closed_use, LooksUp}
use Rattle.jc_facts.specs.client.Forms.{form_view}
use Rattle.jc_acts.specs.steps.References.{acts_of}
use Rattle.jc_acts.proofs.BothLooked.{none_found, by_looked}
use Rattle.jc_sides.proofs.Seen.{of_old, of_new, loads_before, loads_after, number_before, number_after}
use Rattle.jc_sides.proofs.BaseParts.{steady_parts}
use Rattle.jc_index.specs.Ids.{name_at}
use Rattle.jc_acts.proofs.Firsts.{first_closed}
use Rattle.jc_acts.proofs.members.closed_by.Goals as goal

pub look_up-requires-clause-loads : goal.look_up-requires-clause-loads
look_up-requires-clause-loads c = loads_before (worlds c.sides.inside) c.args.sides.now c.sides.view_is (shared_of c.class.inside) c.args.class.now c.class.view_is c.requires.class (steady_parts c.args.sides.now (name_of c.args.class.now) c.requires.steady).both

pub look_up-after-requires-clause-loads : goal.look_up-after-requires-clause-loads
look_up-after-requires-clause-loads c = loads_after (worlds c.sides.inside) c.args.sides.now c.sides.view_is (shared_of c.class.inside) c.args.class.now c.class.view_is c.requires.class (steady_parts c.args.sides.now (name_of c.args.class.now) c.requires.steady).both

pub look_up-requires-clause-number : goal.look_up-requires-clause-number
look_up-requires-clause-number c = number_before (worlds c.sides.inside) c.args.sides.now c.sides.view_is c.args.key.now c.args.numbers.now c.requires.numbers

pub look_up-after-requires-clause-number : goal.look_up-after-requires-clause-number
look_up-after-requires-clause-number c = number_after (worlds c.sides.inside) c.args.sides.now c.sides.view_is c.args.key.now c.args.numbers.now c.requires.numbers

pub returns-in_default : goal.returns-in_default
returns-in_default c =
    first_closed c.args.sides.now c.requires.seats.sides.old_side.differ (name_of c.args.class.now) c.args.key.now (acts_of c.args.form) None
    (none_found c.args.sides.now (name_of c.args.class.now) c.args.key.now c.args.form c.in_default.field-0
    (of_old (worlds c.sides.inside) c.args.sides.now c.sides.view_is (shared_of c.class.inside) c.args.class.now c.class.view_is c.requires.class (λ V x. LooksUp V x c.args.key.now (form_view c.args.form) (Err c.in_default.field-0)) (subst (λ (r : Result Found LinkError). LooksUp c.sides.inside.old.now (name_at c.sides.inside.old.now c.class.inside.old) c.args.key.now (form_view c.args.form) r) c.in_default.is c.look_up.ensures.found)))

pub returns : goal.returns
returns c =
    let u : Looked = record { before = c.in-Ok.before; after = c.look_up-after.result } in
    first_closed c.args.sides.now c.requires.seats.sides.old_side.differ (name_of c.args.class.now) c.args.key.now (acts_of c.args.form) c.first_closed.result
    (c.first_closed.ensures ∙ ap (first_pair (closed_use c.args.sides.now (name_of c.args.class.now) u) (map name_of c.asked-asked.result.now)) c.acts.ensures
    ∙ by_looked c.args.sides.now (name_of c.args.class.now) c.args.key.now c.args.form u
    (of_old (worlds c.sides.inside) c.args.sides.now c.sides.view_is (shared_of c.class.inside) c.args.class.now c.class.view_is c.requires.class (λ V x. LooksUp V x c.args.key.now (form_view c.args.form) (Ok c.in-Ok.before)) (subst (λ (r : Result Found LinkError). LooksUp c.sides.inside.old.now (name_at c.sides.inside.old.now c.class.inside.old) c.args.key.now (form_view c.args.form) r) c.in-Ok.is c.look_up.ensures.found))
    (of_new (worlds c.sides.inside) c.args.sides.now c.sides.view_is (shared_of c.class.inside) c.args.class.now c.class.view_is c.requires.class (λ V x. LooksUp V x c.args.key.now (form_view c.args.form) c.look_up-after.result) c.look_up-after.ensures.found)
    (map name_of c.asked-asked.result.now) c.asked-asked.ensures.enough)
