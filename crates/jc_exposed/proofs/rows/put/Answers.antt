use Rattle.std.proofs.Common.{◌<◌, [], arith, length, refl, sym, ◌∙◌, subst, ap}
use Rattle.std.proofs.lemmas.List.{get_or_read_under}
use Rattle.jc_facts.specs.world.World.{size}
use Rattle.jc_exposed.specs.Rows.{IsAdded, IsRowOf, row_at}
use Rattle.jc_exposed.proofs.AddedRows.{put_at}
use Rattle.jc_exposed.proofs.rows.put.Goals as goal

pub added-requires-clause-row : goal.added-requires-clause-row
added-requires-clause-row c =
    let l : c.number-n.result < length c.args.rows.now.items = omega (arith, c.if-n-len.false, c.len.ensures) in
    let e = c.into_vec.ensures ∙ c.replace-row.ensures.value ∙ get_or_read_under c.args.rows.now.items c.number-n.result (length c.args.rows.now.items) c.index_mut.result.now [] c.index_mut.ensures.value l refl in
    subst (IsRowOf c.args.table.now c.args.member.now.exposed) (sym (e ∙ ap (row_at c.args.rows.now.items) c.number-n.ensures))
    (c.requires.rows.each c.args.member.now.exposed (subst (λ n. n < size c.args.table.now) c.number-n.ensures (subst (λ n. c.number-n.result < n) c.requires.rows.count l)))

pub returns : goal.returns
returns c =
    let l : c.number-n.result < length c.args.rows.now.items = omega (arith, c.if-n-len.false, c.len.ensures) in
    let e = c.into_vec.ensures ∙ c.replace-row.ensures.value ∙ get_or_read_under c.args.rows.now.items c.number-n.result (length c.args.rows.now.items) c.index_mut.result.now [] c.index_mut.ensures.value l refl in
    put_at c.args.table.now c.args.member.now c.args.rows.now.items c.replace-row.new.dest c.from_vec-2.result c.number-n.result c.number-n.ensures c.requires.rows l
    (subst (IsAdded c.args.table.now c.args.member.now (row_at c.args.rows.now.items c.number-n.result)) (sym c.from_vec-2.ensures) (subst (λ row. IsAdded c.args.table.now c.args.member.now row c.in_ok-row.row.items) e c.in_ok-row.ensures))
