use Rattle.std.proofs.Common.{◌≡◌, ◌≤◌, ◌-◌, suc, length, Some, None, sym, ◌∙◌, ap, refl, arith}
use Rattle.jc_facts.specs.world.World.{find_class}
use Rattle.jc_facts.specs.Options.{first_some}
use Rattle.jc_facts.specs.world.Search.{supers}
use Rattle.jc_facts.specs.world.Loading.{fault_at}
use Rattle.jc_index.specs.Ids.{id_of}
use Rattle.jc_index.proofs.Numbers.{find-None, found-by}
use Rattle.jc_loading.proofs.Entering.{loads-more, level-absent, level-zero, level-fault, level-own}
use Rattle.jc_loading.proofs.search.+search_fault.Goals as goal

pub returns-in_default : goal.returns-in_default
returns-in_default t c =
    let e : id_of c.args.index.now c.args.name.now ≡ None = ap (id_of c.args.index.now) (sym c.as_bytes.ensures) ∙ sym c.get.ensures.value ∙ c.in_default.is in
    sym (level-absent c.args.index.now c.args.levels c.args.name.now (find-None c.args.index.now c.args.name.now e))

pub returns-then-levels-eq0 : goal.returns-then-levels-eq0
returns-then-levels-eq0 t c =
    let e : id_of c.args.index.now c.args.name.now ≡ Some c.in-Some.id = ap (id_of c.args.index.now) (sym c.as_bytes.ensures) ∙ sym c.get.ensures.value ∙ c.in-Some.is in
    sym (level-zero c.args.index.now c.args.levels c.args.name.now c.in-Some.id c.if-levels-eq0.true e)

pub loop-at-init : goal.loop-at-init
unfolding first_some
loop-at-init t c = refl

pub returns-in-Some-2 : goal.returns-in-Some-2
returns-in-Some-2 t c =
    let W = c.args.index.now in
    let e : id_of W c.args.name.now ≡ Some c.in-Some.id = ap (id_of W) (sym c.as_bytes.ensures) ∙ sym c.get.ensures.value ∙ c.in-Some.is in
    let f : find_class W c.args.name.now ≡ Some c.facts-class.result.now = found-by W c.args.name.now c.in-Some.id c.facts-class.result.now e c.facts-class.ensures in
    let q : c.args.levels ≡ suc (c.args.levels - 1) = omega arith in
    sym (level-fault W c.args.levels (c.args.levels - 1) c.args.name.now c.facts-class.result.now c.loop-at.at c.super_at.result.now c.in-Some-2.fault q f c.loop-at.invariant c.super_at.ensures (sym c.in_ok-fault.ensures ∙ c.in-Some-2.is))

pub loop-at-preserved : goal.loop-at-preserved
loop-at-preserved t c =
    let W = c.args.index.now in
    let n : c.in_ok-fault.field-0 ≡ None = c.in_default-2.is in
    loads-more (fault_at W (c.args.levels - 1)) (supers c.facts-class.result.now) c.loop-at.at c.super_at.result.now c.loop-at.invariant c.super_at.ensures (sym c.in_ok-fault.ensures ∙ n)

pub returns : goal.returns
returns t c =
    let W = c.args.index.now in
    let e : id_of W c.args.name.now ≡ Some c.in-Some.id = ap (id_of W) (sym c.as_bytes.ensures) ∙ sym c.get.ensures.value ∙ c.in-Some.is in
    let f : find_class W c.args.name.now ≡ Some c.facts-class.result.now = found-by W c.args.name.now c.in-Some.id c.facts-class.result.now e c.facts-class.ensures in
    let q : c.args.levels ≡ suc (c.args.levels - 1) = omega arith in
    let l : length (supers c.facts-class.result.now) ≤ c.loop-at.at = omega (arith, c.super_count-at-end.ensures) in
    c.in_ok-fault-2.ensures ∙ sym (level-own W c.args.levels (c.args.levels - 1) c.args.name.now c.facts-class.result.now c.loop-at.at q f l c.loop-at.invariant)
