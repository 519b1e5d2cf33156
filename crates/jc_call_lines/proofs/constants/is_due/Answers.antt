use Rattle.std.proofs.Common.{◌≡◌, true, sym, subst}
use Rattle.jc_facts.specs.Names.{Bytes}
use Rattle.jc_index.specs.Ids.{name_at}
use Rattle.jc_promises.specs.rule.Bases.{is_kept}
use Rattle.jc_sides.specs.SharedOf.{name_of}
use Rattle.jc_call_lines.proofs.ConstantLines.{due_of, not_kept, not_steady}
use Rattle.jc_call_lines.proofs.constants.is_due.Goals as goal

pub returns-in_default : goal.returns-in_default
returns-in_default c = not_kept c.args.sides.now (name_at c.args.sides.now.old c.args.id) c.in_default.ensures

pub is_steady-requires-clause-shared : goal.is_steady-requires-clause-shared
is_steady-requires-clause-shared c = c.in-Some.ensures.2

pub is_steady-requires-clause-kept : goal.is_steady-requires-clause-kept
is_steady-requires-clause-kept c = subst (λ (x : Bytes). is_kept c.args.sides.now.old c.args.sides.now.new x ≡ true) (sym c.in-Some.ensures.1) c.in-Some.ensures.0

pub returns-then-not-is_steady : goal.returns-then-not-is_steady
returns-then-not-is_steady c = not_steady c.args.sides.now (name_at c.args.sides.now.old c.args.id) (name_of c.in-Some.class) c.in-Some.ensures.1 c.is_steady.result c.is_steady.ensures c.if-not-is_steady.true

pub returns : goal.returns
returns c =
    due_of c.args.sides.now (name_at c.args.sides.now.old c.args.id) (name_of c.in-Some.class) c.in-Some.ensures.1 c.before-2.result.now c.after.result.now c.in_ok-due.due c.is_steady.result c.is_steady.ensures c.if-not-is_steady.false
    c.before-2.ensures c.after.ensures c.in_ok-due.ensures
