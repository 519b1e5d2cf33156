use Rattle.std.proofs.Common.{◌<◌, [], arith, length, refl, ◌∙◌, ap, subst, sym}
use Rattle.std.proofs.lemmas.List.{get_or_read_under}
use Rattle.std.specs.List.{list_any, All}
use Rattle.jc_index.specs.Ids.{name_at}
use Rattle.jc_exposed.specs.Exposures.{IsExposureIn, exposes_to}
use Rattle.jc_exposed.specs.Rows.{row_at}
use Rattle.jc_exposed.proofs.exposed.is_in.Goals as goal

pub is_by_any-requires-clause-members : goal.is_by_any-requires-clause-members
is_by_any-requires-clause-members c =
    let l : c.number.result < length c.args.rows.now = omega (arith, c.number.ensures, c.requires.id, c.requires.rows.count) in
    let e = c.as_slice.ensures ∙ get_or_read_under c.args.rows.now c.number.result (length c.args.rows.now) c.index-rows-number.result [] c.index-rows-number.is l refl ∙ ap (row_at c.args.rows.now) c.number.ensures in
    subst (All (IsExposureIn c.args.table.now)) (sym e) (c.requires.rows.each c.args.id c.requires.id).inside

pub returns : goal.returns
returns c =
    let l : c.number.result < length c.args.rows.now = omega (arith, c.number.ensures, c.requires.id, c.requires.rows.count) in
    let e = c.as_slice.ensures ∙ get_or_read_under c.args.rows.now c.number.result (length c.args.rows.now) c.index-rows-number.result [] c.index-rows-number.is l refl ∙ ap (row_at c.args.rows.now) c.number.ensures in
    c.is_by_any.ensures ∙ ap (list_any (exposes_to c.args.table.now (name_at c.args.table.now c.args.seat) c.args.id)) e
