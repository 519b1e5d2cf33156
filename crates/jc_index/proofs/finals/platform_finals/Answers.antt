use Rattle.std.proofs.Common.{◌≡◌, Bool, List, length, sym, ◌∙◌, subst, arith}
use Rattle.jc_index.specs.steps.PlacesAbove.{place_above}
use Rattle.jc_index.specs.steps.Walking.{AreMarked}
use Rattle.jc_index.proofs.PlatformFinals.{rows-within, rows-marked}
use Rattle.jc_index.proofs.Standing.{lent_back}
use Rattle.jc_index.proofs.finals.platform_finals.Goals as goal

pub mark_first-requires-clause-within : goal.mark_first-requires-clause-within
mark_first-requires-clause-within c = rows-within c.args.classes.now c.args.above.now c.requires

pub finals_in_list-requires : goal.finals_in_list-requires
finals_in_list-requires c =
    let cs = c.args.classes.now in
    let many : length c.mark_first.new.marks ≡ length c.in_ok-marks.marks.items = omega (arith, c.mark_first.ensures.count, c.in_ok-marks.ensures) in
    subst (λ (marks : List Bool). AreMarked (λ at. place_above cs at 0) (length cs) (length cs) marks)
    (sym (c.as_slice.ensures.value ∙ lent_back c.in_ok-marks.marks.len c.mark_first.new.marks c.in_ok-marks.marks.items many c.in_ok-marks.marks.ok.0))
    (rows-marked cs c.args.above.now c.requires c.mark_first.new.marks c.mark_first.ensures)

pub returns : goal.returns
returns c = λ k absent. c.in_ok-keys.ensures k (sym (c.in_ok-finals.ensures k) ∙ absent)
