use Rattle.std.proofs.Common.{◌≡◌, ◌≤◌, length, sym, ◌∙◌, ap, arith, take, Some, None}
use Rattle.jc_facts.specs.world.Search.{supers}
use Rattle.jc_facts.specs.world.Loading.{load_fault}
use Rattle.jc_index.specs.Ids.{name_at}
use Rattle.jc_loading.specs.steps.Passing.{IsPassed}
use Rattle.jc_loading.proofs.Entering.{leads-fault, loads-more, loads-all, all-load}
use Rattle.jc_index.proofs.NamedAbove.{name-above}
use Rattle.jc_loading.proofs.Ordering.{passed-more, passed-all, of_class}
use Rattle.jc_loading.proofs.faults.way_from.Goals as goal

pub loop-above-init : goal.loop-above-init
loop-above-init c = (c.requires.before c.facts-facts.result.now (sym c.facts-facts.ensures), c.requires.past c.facts-facts.result.now (sym c.facts-facts.ensures))

pub returns-in-Some-clause-goes : goal.returns-in-Some-clause-goes
returns-in-Some-clause-goes c =
    let s = name-above c.args.index.now (supers c.facts-facts.result.now) c.loop-above.above c.class_above.result (omega (arith, c.super_count-above-end.ensures, c.loop-above-test.true)) c.class_above.ensures.value in
    leads-fault c.args.index.now (name_at c.args.index.now c.args.class) c.loop-above.above s.name c.in-Some.fault
    (record { class = c.facts-facts.result.now; found = sym c.facts-facts.ensures; before = c.loop-above.invariant.0; next = s.there })
    (c.in-Known.ensures.says s.name s.numbered ∙ c.in-Some.is)

pub loop-above-preserved : goal.loop-above-preserved
loop-above-preserved c =
    let s = name-above c.args.index.now (supers c.facts-facts.result.now) c.loop-above.above c.class_above.result (omega (arith, c.super_count-above-end.ensures, c.loop-above-test.true)) c.class_above.ensures.value in
    let e : c.in-Known.fault ≡ None = cc in (
      loads-more (load_fault c.args.index.now) (supers c.facts-facts.result.now) c.loop-above.above s.name c.loop-above.invariant.0 s.there (c.in-Known.ensures.says s.name s.numbered ∙ e),
      passed-more (IsPassed c.args.index.now c.args.states.now) (supers c.facts-facts.result.now) c.loop-above.above s.name c.loop-above.invariant.1 s.there (c.in-Known.ensures.past s.name s.numbered e),
    )

pub returns-in-Unknown-clause-goes : goal.returns-in-Unknown-clause-goes
returns-in-Unknown-clause-goes c =
    let s = name-above c.args.index.now (supers c.facts-facts.result.now) c.loop-above.above c.class_above.result (omega (arith, c.super_count-above-end.ensures, c.loop-above-test.true)) c.class_above.ensures.value in
    let h = c.in-Unknown.ensures.says s.name s.numbered in
    (h.0, record { class = c.facts-facts.result.now; found = sym c.facts-facts.ensures; before = c.loop-above.invariant.0; next = s.there ∙ ap Some h.1 }, h.2)

pub returns-in-Unknown-clause-past : goal.returns-in-Unknown-clause-past
returns-in-Unknown-clause-past c =
    of_class c.args.index.now (name_at c.args.index.now c.args.class) c.facts-facts.result.now (IsPassed c.args.index.now c.args.states.now) (λ d. take c.loop-above.above (supers d)) c.facts-facts.ensures c.loop-above.invariant.1

pub returns-clause-goes : goal.returns-clause-goes
returns-clause-goes c =
    let l : length (supers c.facts-facts.result.now) ≤ c.loop-above.above = omega (arith, c.super_count-above-end.ensures) in
    all-load c.args.index.now (name_at c.args.index.now c.args.class) c.facts-facts.result.now (sym c.facts-facts.ensures)
    (loads-all (load_fault c.args.index.now) (supers c.facts-facts.result.now) c.loop-above.above l c.loop-above.invariant.0)

pub returns-clause-past : goal.returns-clause-past
returns-clause-past c =
    let l : length (supers c.facts-facts.result.now) ≤ c.loop-above.above = omega (arith, c.super_count-above-end.ensures) in
    of_class c.args.index.now (name_at c.args.index.now c.args.class) c.facts-facts.result.now (IsPassed c.args.index.now c.args.states.now) supers c.facts-facts.ensures
    (passed-all (IsPassed c.args.index.now c.args.states.now) (supers c.facts-facts.result.now) c.loop-above.above l c.loop-above.invariant.1)
