use Rattle.std.proofs.lemmas.List.{get_or_read_under}
use Rattle.std.proofs.Common.{◌<◌, [], ◌∙◌, sym, ap, subst}
use Rattle.jc_facts.specs.world.World.{size}
use Rattle.jc_exposed.specs.Exposing.{row_at}
use Rattle.jc_index.specs.Ids.{name_at}
use Rattle.jc_exposed.proofs.FoundMembers.{row_finds}
use Rattle.jc_exposed.proofs.exposing.found_at.Goals as goal

pub returns : goal.returns
returns c =
    row_finds c.args.table.now c.args.own.now c.requires.own (name_at c.args.table.now c.args.class) c.args.above c.requires.above c.facts-facts.result.now c.facts-facts.ensures c.as_slice-row.result.now (c.as_slice-row.ensures ∙ get_or_read_under c.args.own.now.rows.items c.number.result (size c.args.table.now) c.index-items.result.now [] c.index-items.ensures (subst (λ n. n < size c.args.table.now) (sym c.number.ensures) c.requires.above) (sym c.requires.own.rows.count) ∙ ap (row_at c.args.own.now) c.number.ensures) c.in_ok-members.members.items c.in_ok-members.ensures
