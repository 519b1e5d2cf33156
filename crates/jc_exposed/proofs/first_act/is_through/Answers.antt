use Rattle.std.proofs.Common.{sym, ap, subst, ◌∙◌}
use Rattle.std.specs.List.{All, list_any}
use Rattle.jc_index.specs.Ids.{name_at}
use Rattle.jc_exposed.specs.Exposures.{IsExposureIn, exposes_to}
use Rattle.jc_exposed.proofs.first_act.is_through.Goals as goal

pub is_by_any-requires-clause-members : goal.is_by_any-requires-clause-members
is_by_any-requires-clause-members c = subst (All (IsExposureIn c.args.table.now)) (sym c.as_slice.ensures.value) c.in_ok-members.ensures.inside

pub returns : goal.returns
returns c =
    c.is_by_any.ensures ∙ ap (list_any (exposes_to c.args.table.now (name_at c.args.table.now c.args.seat) c.args.exposed)) c.as_slice.ensures.value
    ∙ c.in_ok-members.ensures.exposed (name_at c.args.table.now c.args.seat) c.args.exposed c.requires.wanted
