use Rattle.std.proofs.Common.{◌≡◌, ◌<◌, ℕ, List, [], refl, sym, subst, ◌∙◌, arith}
use Rattle.std.specs.List.{All}
use Rattle.std.proofs.lemmas.List.{get_or_read_under}
use Rattle.jc_facts.specs.world.World.{size}
use Rattle.jc_select.specs.steps.Losing.{row_at}
use Rattle.jc_select.proofs.losing.set_lost.Goals as goal

pub set_marks-requires : goal.set_marks-requires
set_marks-requires c =
    let e : c.as_slice.result.now ≡ row_at c.args.rows.now c.loop-row.row-index =
    c.as_slice.ensures ∙ get_or_read_under c.args.rows.now c.loop-row.row-index _ c.row-item.result [] c.row-item.is c.loop-row-test.true refl in
    let l : c.loop-row.row-index < size c.args.sides.now.old = omega (arith, c.loop-row-test.true, c.requires.rows.count) in
    subst (λ (m : ℕ). All (λ id. id < m) c.as_slice.result.now) (sym (c.loop-row.auto.marks ∙ c.requires.marks))
    (subst (λ (is : List ℕ). All (λ id. id < size c.args.sides.now.old) is) (sym e) (c.requires.rows.each c.loop-row.row-index l).within)
