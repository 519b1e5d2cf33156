use Rattle.std.proofs.Common.{◌≡◌, ◌<◌, ℕ, Bool, false, get_or, Option, Some, None, cond, arith, ◌∙◌, ap, subst, refl}
use Rattle.jc_facts.specs.declared.class_facts.ClassFacts.{ClassFacts}
use Rattle.jc_facts.specs.world.World.{World, find_class, size}
use Rattle.jc_index.specs.Ids.{name_at}
use Rattle.jc_rows.specs.Keys.{class_with_rows}
use Rattle.jc_rows.specs.WithRows.{has_rows}
use Rattle.jc_rows.specs.steps.Numbering.{AddsClass}
use Rattle.jc_rows.proofs.Marking.{mark-at, marks-count}
use Rattle.jc_rows.proofs.Numbers.{class-next, numbering-end}
use Rattle.jc_rows.proofs.numbering.number_members.Goals as goal

pub bounds-made-n : goal.bounds-made-n
bounds-made-n c = omega (arith, marks-count c.args.index.now c.args.made.now c.requires, c.count-n-end.ensures.count, c.loop-n-test.true)

pub loop-n-preserved : goal.loop-n-preserved
loop-n-preserved c =
    let W : World = c.args.index.now in
    let d : ClassFacts = c.facts-class.result.now in
    let count : c.count-n-end.result ≡ size W = c.count-n-end.ensures.count in
    let l : c.loop-n.n < size W = omega (arith, count, c.loop-n-test.true) in
    let found : Some d ≡ find_class W (name_at W c.loop-n.n) = c.facts-class.ensures ∙ ap (λ (n : ℕ). find_class W (name_at W n)) c.new-in-loop-n.ensures in
    let made : cond (get_or c.args.made.now c.loop-n.n false) (Some d) None ≡ class_with_rows W (name_at W c.loop-n.n) =
    ap (λ (b : Bool). cond b (Some d) None) (mark-at W c.args.made.now c.requires c.loop-n.n c.loop-n.n refl l) ∙ ap (λ (o : Option ClassFacts). cond (has_rows W (name_at W c.loop-n.n)) o None) found
    in
    class-next W c.loop-n.n (class_with_rows W (name_at W c.loop-n.n)) l refl c.loop-n.numbering c.add_where.new.numbering c.loop-n.invariant
    (subst (λ (o : Option ClassFacts). AddsClass c.loop-n.numbering o c.add_where.new.numbering) made c.in_ok-add_where.ensures)

pub returns : goal.returns
returns c =
    let count : c.count-n-end.result ≡ size c.args.index.now = c.count-n-end.ensures.count in
    numbering-end c.args.index.now c.loop-n.n c.loop-n.numbering (omega (arith, count, c.loop-n-test.false, c.loop-n.auto.n-end)) c.loop-n.invariant
