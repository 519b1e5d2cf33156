use Rattle.std.proofs.Common.{◌-◌, ◌+◌, length, map, arith, sym}
use Rattle.std.proofs.lemmas.List.{map_push}
use Rattle.jc_sig.specs.Reading.{type_from, list_from, parts_from}
use Rattle.jc_sig.specs.Views.{argument_view, part_view}
use Rattle.jc_sig.proofs.Levels.{type_class, arguments_some}
use Rattle.jc_sig.proofs.Loops.{list_more, list_close, list_bad, list_out, parts_more, parts_last, parts_bad, parts_out}
use Rattle.jc_sig.proofs.types.+read.Goals as goal

pub list_at-returns-in-Some : goal.list_at-returns-in-Some
list_at-returns-in-Some t c =
    list_close (type_from c.args.levels) (map argument_view c.loop.arguments.items) (length c.args.bytes.now - c.loop.counter) c.loop.rest.now (list_from (type_from c.args.levels) (length c.args.bytes.now) c.args.bytes.now)
    c.in-Some.behind.now (omega arith) (sym c.in-Some.ensures) c.loop.invariant

pub list_at-returns-in_default-2 : goal.list_at-returns-in_default-2
list_at-returns-in_default-2 t c =
    list_bad (type_from c.args.levels) (map argument_view c.loop.arguments.items) (length c.args.bytes.now - c.loop.counter) c.loop.rest.now (list_from (type_from c.args.levels) (length c.args.bytes.now) c.args.bytes.now)
    (omega arith) (sym c.in_default.ensures) (sym (rw c.in_default-2.is at c.in_ok-argument.ensures)) c.loop.invariant

pub list_at-loop-preserved : goal.list_at-loop-preserved
list_at-loop-preserved t c = rw (c.in_ok-push.ensures.items, map_push argument_view c.loop.arguments.items c.in-Some-2.argument)
    (list_more (type_from c.args.levels) (map argument_view c.loop.arguments.items) (length c.args.bytes.now - c.loop.counter) c.loop.rest.now (list_from (type_from c.args.levels) (length c.args.bytes.now) c.args.bytes.now)
    (length c.args.bytes.now - (c.loop.counter + 1)) (argument_view c.in-Some-2.argument) c.in-Some-2.next.now (omega arith) (sym c.in_default.ensures) (sym (rw c.in-Some-2.is at c.in_ok-argument.ensures)) c.loop.invariant)

pub list_at-returns : goal.list_at-returns
list_at-returns t c =
    list_out (type_from c.args.levels) (map argument_view c.loop.arguments.items) (length c.args.bytes.now - c.loop.counter) c.loop.rest.now (list_from (type_from c.args.levels) (length c.args.bytes.now) c.args.bytes.now)
    (omega arith) c.loop.invariant

pub parts_at-returns-in_default : goal.parts_at-returns-in_default
parts_at-returns-in_default t c =
    parts_bad (type_from c.args.levels) (map part_view c.loop.parts.items) (length c.args.bytes.now - c.loop.counter) c.loop.rest.now (parts_from (type_from c.args.levels) (length c.args.bytes.now) c.args.bytes.now)
    (omega arith) (sym (rw c.in_default.is at c.in_ok-part.ensures)) c.loop.invariant

pub parts_at-returns-in_default-after : goal.parts_at-returns-in_default-after
parts_at-returns-in_default-after t c = rw (c.in_ok-push.ensures.items, map_push part_view c.loop.parts.items c.in-Some.part)
    (parts_last (type_from c.args.levels) (map part_view c.loop.parts.items) (length c.args.bytes.now - c.loop.counter) c.loop.rest.now (parts_from (type_from c.args.levels) (length c.args.bytes.now) c.args.bytes.now)
    (part_view c.in-Some.part) c.in-Some.next.now (omega arith) (sym (rw c.in-Some.is at c.in_ok-part.ensures)) (sym c.in_default-after.ensures) c.loop.invariant)

pub parts_at-loop-preserved : goal.parts_at-loop-preserved
parts_at-loop-preserved t c = rw (c.in_ok-push.ensures.items, map_push part_view c.loop.parts.items c.in-Some.part)
    (parts_more (type_from c.args.levels) (map part_view c.loop.parts.items) (length c.args.bytes.now - c.loop.counter) c.loop.rest.now (parts_from (type_from c.args.levels) (length c.args.bytes.now) c.args.bytes.now)
    (length c.args.bytes.now - (c.loop.counter + 1)) (part_view c.in-Some.part) c.in-Some.next.now c.in-Some-after.behind.now (omega arith) (sym (rw c.in-Some.is at c.in_ok-part.ensures)) (sym c.in-Some-after.ensures) c.loop.invariant)

pub parts_at-returns : goal.parts_at-returns
parts_at-returns t c =
    parts_out (type_from c.args.levels) (map part_view c.loop.parts.items) (length c.args.bytes.now - c.loop.counter) c.loop.rest.now (parts_from (type_from c.args.levels) (length c.args.bytes.now) c.args.bytes.now)
    (omega arith) c.loop.invariant

pub arguments_at-returns : goal.arguments_at-returns
arguments_at-returns t c =
    arguments_some (type_from c.args.levels) c.args.bytes.now c.in-Some.rest.now c.in-Some-2.rest.now c.in-Some-2.arguments.items _ (sym c.in-Some.ensures) (sym (rw c.in-Some-2.is at c.in_ok-arguments.ensures)) (sym c.in-Some-2.arguments.ok.0) c.if-is_empty.ensures

pub type_at-returns-then-first-eq76 : goal.type_at-returns-then-first-eq76
type_at-returns-then-first-eq76 t c =
    type_class c.args.levels c.args.bytes.now c.in-Some.first.now c.in-Some.rest.now c.in-Some-3.class c.in-Some-3.rest.now c.if-levels-eq0.false c.in-Some.ensures.cases.0 c.if-first-eq76.true (sym (rw c.in-Some-3.is at c.in_ok-class.ensures))
