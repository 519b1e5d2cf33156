use Rattle.std.proofs.Common.{ap, sym, ◌∙◌, Some}
use Rattle.jc_sides.specs.SidesOf.{SidesOf}
use Rattle.jc_drafts.proofs.PermittedNames.{no_old, no_new, excluded, no_list, of_list, by_set}
use Rattle.jc_drafts.proofs.permitted.missing_of.Goals as goal

pub returns-in_default : goal.returns-in_default
returns-in_default c = no_old c.args.sides.now c.sides.inside.old.now (ap (λ (s : SidesOf). s.old) c.sides.view_is) c.args.class.now c.in_default.ensures

pub returns-in_default-record_of : goal.returns-in_default-record_of
returns-in_default-record_of c =
    no_new c.args.sides.now c.sides.inside.old.now (ap (λ (s : SidesOf). s.old) c.sides.view_is) c.args.class.now c.sides.inside.new.now (ap (λ (s : SidesOf). s.new) c.sides.view_is)
    c.in-Some.before.now c.in-Some.ensures c.in_default-record_of.ensures

pub returns-then-excludes_clients : goal.returns-then-excludes_clients
returns-then-excludes_clients c =
    excluded c.args.sides.now c.sides.inside.old.now (ap (λ (s : SidesOf). s.old) c.sides.view_is) c.args.class.now c.sides.inside.new.now (ap (λ (s : SidesOf). s.new) c.sides.view_is)
    c.in-Some.before.now c.in-Some.ensures c.in-Some-record_of.after.now c.in-Some-record_of.ensures (sym c.excludes_clients.ensures ∙ c.if-excludes_clients.true)

pub returns-in_default-permits : goal.returns-in_default-permits
returns-in_default-permits c =
    no_list c.args.sides.now c.sides.inside.old.now (ap (λ (s : SidesOf). s.old) c.sides.view_is) c.args.class.now c.sides.inside.new.now (ap (λ (s : SidesOf). s.new) c.sides.view_is)
    c.in-Some.before.now c.in-Some.ensures c.in-Some-record_of.after.now c.in-Some-record_of.ensures (sym c.excludes_clients.ensures ∙ c.if-excludes_clients.false) c.in_default-permits.is

pub returns : goal.returns
returns c =
    of_list c.args.sides.now c.sides.inside.old.now (ap (λ (s : SidesOf). s.old) c.sides.view_is) c.args.class.now c.sides.inside.new.now (ap (λ (s : SidesOf). s.new) c.sides.view_is)
    c.in-Some.before.now c.in-Some.ensures c.in-Some-record_of.after.now c.as_slice.result.now c.names_of.result.now _ c.in-Some-record_of.ensures (sym c.excludes_clients.ensures ∙ c.if-excludes_clients.false) (c.in-Some-permits.is ∙ ap Some (sym c.as_slice.ensures)) c.names_of.ensures
    (c.first_allowed.ensures ∙ by_set c.args.sides.now c.as_slice.result.now c.in_ok-others.others c.names_of.result.now c.in_ok-others.ensures)
