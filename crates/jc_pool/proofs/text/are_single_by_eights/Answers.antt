use Rattle.std.proofs.Common.{◌≡◌, ◌+◌, ◌-◌, ◌∙◌, true, take, length, sym, arith}
use Rattle.std.specs.List.{list_all}
use Rattle.jc_pool.specs.steps.Texts.{is_single_byte}
use Rattle.jc_pool.proofs.Pieces.{last_piece}
use Rattle.jc_pool.proofs.text.are_single_by_eights.Goals as goal

pub returns-then-are_single : goal.returns-then-are_single
returns-then-are_single c =
    let n = length c.args.bytes.now in
    let front : list_all is_single_byte (take 8 c.args.bytes.now) ≡ true = sym c.are_single.ensures ∙ c.if-are_single.true in
    let sum : (n - 8) + (16 - n) ≡ 8 = omega (arith, c.requires.least, c.requires.most) in
    c.are_single-then-are_single.ensures ∙ last_piece is_single_byte (n - 8) (16 - n) c.args.bytes.now (rw sum front)
