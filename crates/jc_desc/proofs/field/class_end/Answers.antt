use Rattle.std.proofs.Common.{Some, None, refl, ap, arith, inl, inr}
use Rattle.jc_desc.proofs.ClassEnds.{found_at, none_ends}
use Rattle.jc_desc.proofs.field.class_end.Goals as goal

pub returns-then-begins-clause-end : goal.returns-then-begins-clause-end
returns-then-begins-clause-end c = found_at c.loop-end.begins c.args.bytes.now c.loop-end.end 59 None c.loop-end-test.true c.in-59.is (rw c.if-begins.true refl) c.loop-end.invariant

pub returns-else-begins-clause-end : goal.returns-else-begins-clause-end
returns-else-begins-clause-end c = found_at c.loop-end.begins c.args.bytes.now c.loop-end.end 59 (Some c.loop-end.end) c.loop-end-test.true c.in-59.is (rw c.if-begins.false (ap Some (omega arith))) c.loop-end.invariant

pub returns-then-begins-2-clause-end : goal.returns-then-begins-2-clause-end
returns-then-begins-2-clause-end c = found_at c.loop-end.begins c.args.bytes.now c.loop-end.end 47 None c.loop-end-test.true c.in-47.is (rw c.if-begins-2.true refl) c.loop-end.invariant

pub returns-in-46-clause-end : goal.returns-in-46-clause-end
returns-in-46-clause-end c = elim c.in-46.is [
  | inl dot ↦ found_at c.loop-end.begins c.args.bytes.now c.loop-end.end 46 None c.loop-end-test.true dot refl c.loop-end.invariant
  | inr bracket ↦ found_at c.loop-end.begins c.args.bytes.now c.loop-end.end 91 None c.loop-end-test.true bracket refl c.loop-end.invariant
]

pub returns-clause-end : goal.returns-clause-end
returns-clause-end c = none_ends c.loop-end.begins c.args.bytes.now c.loop-end.end (omega (arith, c.loop-end-test.false)) c.loop-end.invariant
