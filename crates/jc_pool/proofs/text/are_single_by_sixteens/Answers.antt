use Rattle.std.proofs.Common.{◌≡◌, ◌+◌, ◌-◌, ◌*◌, ◌∙◌, length, sym, arith}
use Rattle.jc_pool.specs.steps.Texts.{is_single_byte}
use Rattle.jc_pool.proofs.Pieces.{piece_more, piece_fails, last_piece}
use Rattle.jc_pool.proofs.text.are_single_by_sixteens.Goals as goal

pub returns-then-not-are_single : goal.returns-then-not-are_single
returns-then-not-are_single c = sym (piece_fails is_single_byte (16 * c.loop-i.i) (16 * c.loop-i.i + 16 - 16 * c.loop-i.i) c.args.bytes.now (sym c.are_single.ensures ∙ c.if-not-are_single.true))

pub loop-i-preserved : goal.loop-i-preserved
loop-i-preserved c =
    let next : 16 * (c.loop-i.i + 1) ≡ 16 * c.loop-i.i + (16 * c.loop-i.i + 16 - 16 * c.loop-i.i) = omega arith in
    rw next (piece_more is_single_byte (16 * c.loop-i.i) (16 * c.loop-i.i + 16 - 16 * c.loop-i.i) c.args.bytes.now c.loop-i.invariant (sym c.are_single.ensures ∙ c.if-not-are_single.false))

pub returns : goal.returns
returns c =
    let n = length c.args.bytes.now in
    let sum : (n - 16) + (16 * c.loop-i.i - (n - 16)) ≡ 16 * c.loop-i.i = omega (arith, c.requires, c.loop-i-test.false, c.loop-i.auto.i-end) in
    c.are_single-2.ensures ∙ last_piece is_single_byte (n - 16) (16 * c.loop-i.i - (n - 16)) c.args.bytes.now (rw sum c.loop-i.invariant)
