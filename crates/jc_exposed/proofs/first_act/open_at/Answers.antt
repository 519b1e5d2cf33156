use Rattle.std.proofs.Common.{[], ◌<◌, ◌∙◌, ap, subst, sym}
use Rattle.std.proofs.lemmas.List.{get_or_read_under}
use Rattle.jc_facts.specs.world.World.{size}
use Rattle.jc_index.specs.Ids.{name_at}
use Rattle.jc_exposed.specs.Exposing.{row_at}
use Rattle.jc_exposed.proofs.FirstThrough.{collects_row}
use Rattle.jc_exposed.proofs.first_act.open_at.Goals as goal

pub returns : goal.returns
returns c =
    collects_row c.args.table.now c.args.own.now c.requires.own (name_at c.args.table.now c.args.seat) (name_at c.args.table.now c.args.class) c.args.exposed c.args.owner c.requires.wanted c.requires.owner c.facts-facts.result.now c.facts-facts.ensures c.as_slice-row.result.now
    (c.as_slice-row.ensures
    ∙ get_or_read_under c.args.own.now.rows.items c.number.result (size c.args.table.now) c.index.result.now [] c.index.ensures (subst (λ n. n < size c.args.table.now) (sym c.number.ensures) c.requires.owner) (sym c.requires.own.rows.count)
    ∙ ap (row_at c.args.own.now) c.number.ensures)
    c.in_ok-keys.keys.items c.in_ok-keys.ensures
