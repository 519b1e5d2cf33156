use Rattle.std.proofs.Common.{ap, sym, ◌∙◌}
use Rattle.std.specs.List.{list_any}
use Rattle.jc_facts.specs.world.World.{size}
use Rattle.jc_sides.specs.SidesOf.{SidesOf}
use Rattle.jc_exposed.proofs.AddedRows.{none_wanted}
use Rattle.jc_exposed.proofs.exposed.Exposed.new.Goals as goal

pub with_starts-requires-clause-rows : goal.with_starts-requires-clause-rows
with_starts-requires-clause-rows c =
    none_wanted c.args.sides.now.old c.args.wanted.items c.in_ok-rows.rows.items (ap (list_any (λ w. w)) (sym c.as_slice.ensures.value) ∙ sym c.is_any_wanted.ensures ∙ c.if-not-is_any_wanted.true)
    (c.in_ok-rows.ensures.count ∙ ap (λ (s : SidesOf). size s.old) c.sides.view_is) c.in_ok-rows.ensures.empty

pub exposing_rows-requires-clause-bare : goal.exposing_rows-requires-clause-bare
exposing_rows-requires-clause-bare c = c.sides.invariant.sides.run.old_bare
