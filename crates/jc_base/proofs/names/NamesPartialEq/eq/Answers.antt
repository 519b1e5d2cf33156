use Rattle.std.proofs.Common.{sym, ◌∙◌, arith}
use Rattle.jc_base.proofs.Again.{front_known, front_same, all_same, one_differs}
use Rattle.jc_base.proofs.names.NamesPartialEq.eq.Goals as goal

pub loop-at-preserved-then-is_some : goal.loop-at-preserved-then-is_some
loop-at-preserved-then-is_some c =
    front_known c.as_slice-names.result.now c.as_slice-others.result.now c.loop-at.at c.are_as_before.result (rw (c.as_slice-names.ensures, c.as_slice-others.ensures) c.are_as_before.ensures) (sym c.if-is_some.true ∙ c.is_some.ensures) c.loop-at.invariant

pub loop-at-preserved : goal.loop-at-preserved
loop-at-preserved c =
    front_same c.as_slice-names.result.now c.as_slice-others.result.now c.loop-at.at c.index-names-at.result c.index-others-at.result c.loop-at-test.true (omega (arith, c.loop-at-test.true, c.if-names-others.false)) c.index-names-at.is c.index-others-at.is
    (sym c.if-ne.false ∙ c.ne.ensures) c.loop-at.invariant

pub returns-then-ne : goal.returns-then-ne
returns-then-ne c =
    rw (sym c.as_slice-names.ensures, sym c.as_slice-others.ensures)
    (one_differs c.as_slice-names.result.now c.as_slice-others.result.now c.loop-at.at c.index-names-at.result c.index-others-at.result c.loop-at-test.true (omega (arith, c.loop-at-test.true, c.if-names-others.false)) c.index-names-at.is c.index-others-at.is
    (sym c.if-ne.true ∙ c.ne.ensures))

pub returns : goal.returns
returns c =
    rw (sym c.as_slice-names.ensures, sym c.as_slice-others.ensures)
    (all_same c.as_slice-names.result.now c.as_slice-others.result.now c.loop-at.at c.loop-at-test.false (omega (arith, c.loop-at-test.false, c.if-names-others.false)) c.loop-at.invariant)
