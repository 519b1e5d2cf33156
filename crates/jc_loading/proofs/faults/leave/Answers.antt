use Rattle.std.proofs.Common.{◌≡◌, ◌<◌, ◌∙◌, List, Some, None, length, sym, ap, subst, arith}
use Rattle.jc_facts.specs.world.World.{find_class}
use Rattle.jc_facts.proofs.World.{find-name}
use Rattle.std.specs.List.{Contains}
use Rattle.jc_index.specs.Ids.{name_at}
use Rattle.jc_loading.specs.declared.faults.Frame.{Frame}
use Rattle.jc_loading.specs.steps.Entering.{bottom}
use Rattle.jc_loading.proofs.Turns.{top-fault, no-frames, leave-path, leave-end, fail-path, lent-inside}
use Rattle.jc_loading.proofs.Ordering.{orders-noted, orders-left, way-left, grows-pushed, grown-pushed}
use Rattle.jc_loading.proofs.faults.leave.Goals as goal

pub own_fault-requires-clause-class : goal.own_fault-requires-clause-class
own_fault-requires-clause-class c =
    let W = c.args.index.now in
    let f : find_class W (name_at W c.args.top.class) ≡ Some c.facts.result.now = sym c.facts.ensures in
    ap (find_class W) (find-name W (name_at W c.args.top.class) c.facts.result.now f) ∙ f

pub note-requires-clause-path : goal.note-requires-clause-path
note-requires-clause-path c = lent-inside c.args.index.now c.args.states.now c.args.path.now.items c.as_slice.result.now c.args.top c.as_slice.ensures.value c.requires.way

pub returns-in-Some-clause-turns : goal.returns-in-Some-clause-turns
returns-in-Some-clause-turns c =
    fail-path c.args.index.now c.args.states.now c.note.new.states c.args.path.now.items c.as_slice.result.now c.args.top c.in-Some.fault c.as_slice.ensures.value c.requires.way
    (top-fault c.args.index.now (name_at c.args.index.now c.args.top.class) c.facts.result.now c.in_ok-fault.field-0 (Some c.in-Some.fault) c.requires.above c.facts.ensures c.in_ok-fault.ensures c.in-Some.is)
    c.note.ensures

pub returns-in-Some-pop-clause-turns : goal.returns-in-Some-pop-clause-turns
returns-in-Some-pop-clause-turns c =
    let n : c.in_ok-fault.field-0 ≡ None = cc in
    leave-path c.args.index.now c.args.states.now c.args.path.now.items c.pop.new.self.items c.in-Some-pop.frame c.args.top c.number.result c.in-Some-pop.ensures.items c.number.ensures c.requires.way
    (top-fault c.args.index.now (name_at c.args.index.now c.args.top.class) c.facts.result.now c.in_ok-fault.field-0 None c.requires.above c.facts.ensures c.in_ok-fault.ensures n)

pub returns-in-None-clause-turns : goal.returns-in-None-clause-turns
returns-in-None-clause-turns c =
    let n : c.in_ok-fault.field-0 ≡ None = cc in
    let z : length c.args.path.now.items ≡ 0 = omega (arith, c.args.path.now.ok.0, c.in-None.ensures.cases.0) in
    leave-end c.args.index.now c.args.states.now c.args.path.now.items c.args.top c.number.result (no-frames c.args.path.now.items z) c.number.ensures c.requires.way
    (top-fault c.args.index.now (name_at c.args.index.now c.args.top.class) c.facts.result.now c.in_ok-fault.field-0 None c.requires.above c.facts.ensures c.in_ok-fault.ensures n)

pub returns-in-Some-clause-ordered : goal.returns-in-Some-clause-ordered
returns-in-Some-clause-ordered c = (
  orders-noted c.args.index.now c.args.states.now c.note.new.states c.as_slice.result.now c.args.top.class c.in-Some.fault c.args.order.now.items c.note.ensures c.requires.orders,
  λ e. absurd (let q : Some c.in-Some.fault ≡ None = e in cc),
)

pub returns-in-Some-clause-grows : goal.returns-in-Some-clause-grows
returns-in-Some-clause-grows c = λ n h. h

pub returns-in-Some-pop-clause-ordered : goal.returns-in-Some-pop-clause-ordered
returns-in-Some-pop-clause-ordered c =
    let W = c.args.index.now in
    let ss = c.args.states.now in
    let n : c.in_ok-fault.field-0 ≡ None = cc in
    let l : c.args.top.class < length ss = let e = c.requires.way.right.count in let i = c.requires.way.inside in omega arith in (
      orders-left W ss c.number.result c.args.order.now.items c.push.new.self.items c.args.top.class c.number.ensures c.in_ok-push.ensures.items l c.requires.way.inside
          (top-fault W (name_at W c.args.top.class) c.facts.result.now c.in_ok-fault.field-0 None c.requires.above c.facts.ensures c.in_ok-fault.ensures n) c.requires.past c.requires.orders,
      way-left W ss c.args.path.now.items c.pop.new.self.items c.in-Some-pop.frame c.args.top c.number.result c.in-Some-pop.ensures.items c.number.ensures l c.requires.passed,
    )

pub returns-in-Some-pop-clause-grows : goal.returns-in-Some-pop-clause-grows
returns-in-Some-pop-clause-grows c = grows-pushed c.args.order.now.items c.push.new.self.items c.args.top.class c.in_ok-push.ensures.items

pub returns-in-None-clause-ordered : goal.returns-in-None-clause-ordered
returns-in-None-clause-ordered c =
    let W = c.args.index.now in
    let ss = c.args.states.now in
    let n : c.in_ok-fault.field-0 ≡ None = cc in
    let l : c.args.top.class < length ss = let e = c.requires.way.right.count in let i = c.requires.way.inside in omega arith in
    let z : length c.args.path.now.items ≡ 0 = omega (arith, c.args.path.now.ok.0, c.in-None.ensures.cases.0) in (
      orders-left W ss c.number.result c.args.order.now.items c.push.new.self.items c.args.top.class c.number.ensures c.in_ok-push.ensures.items l c.requires.way.inside
          (top-fault W (name_at W c.args.top.class) c.facts.result.now c.in_ok-fault.field-0 None c.requires.above c.facts.ensures c.in_ok-fault.ensures n) c.requires.past c.requires.orders,
      λ e. subst (λ (fs : List Frame). Contains c.push.new.self.items (bottom fs c.args.top.class)) (sym (no-frames c.args.path.now.items z)) (grown-pushed c.args.order.now.items c.push.new.self.items c.args.top.class c.in_ok-push.ensures.items),
    )

pub returns-in-None-clause-grows : goal.returns-in-None-clause-grows
returns-in-None-clause-grows c = grows-pushed c.args.order.now.items c.push.new.self.items c.args.top.class c.in_ok-push.ensures.items
