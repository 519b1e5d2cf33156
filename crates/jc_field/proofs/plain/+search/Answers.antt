use Rattle.std.proofs.Common.{◌≡◌, ◌≤◌, ◌-◌, List, length, suc, None, subst, arith}
use Rattle.jc_facts.specs.Names.{Bytes}
use Rattle.jc_field.proofs.Levels.{to-absent, level_none, to-own, to-interface, to-super, to-next, super-some, super-none}
use Rattle.jc_field.proofs.plain.+search.Goals as goal

pub returns-in_default : goal.returns-in_default
returns-in_default t c = to-absent c.args.table.now c.args.key.now c.args.name.now c.args.levels c.in_default.ensures.value

pub returns-then-levels-eq0 : goal.returns-then-levels-eq0
returns-then-levels-eq0 t c = level_none c.args.table.now c.args.key.now c.args.name.now c.args.levels c.if-levels-eq0.true

pub returns-in-Some-own : goal.returns-in-Some-own
returns-in-Some-own t c =
    let e : c.args.levels ≡ suc (c.args.levels - 1) = omega arith in
    to-own c.args.table.now c.args.key.now c.args.name.now c.in-Some.class c.facts-facts.result.now c.in-Some.ensures.value c.facts-facts.ensures c.args.levels (c.args.levels - 1) e c.in-Some-own.found c.in-Some-own.ensures

pub returns-in-Some-search : goal.returns-in-Some-search
returns-in-Some-search t c =
    let e : c.args.levels ≡ suc (c.args.levels - 1) = omega arith in
    to-interface c.args.table.now c.args.key.now c.args.name.now c.in-Some.class c.facts-facts.result.now c.in-Some.ensures.value c.facts-facts.ensures c.args.levels (c.args.levels - 1) e
    c.as_slice-interface-items.result.now c.loop-interface.interface-index c.interface-item.result c.as_bytes.result.now c.in-Some-search.found c.as_slice-interface-items.ensures c.loop-interface-test.true c.interface-item.is
    c.as_bytes.ensures c.in-None.ensures c.loop-interface.invariant c.in-Some-search.ensures

pub loop-interface-preserved : goal.loop-interface-preserved
loop-interface-preserved t c =
    to-next c.args.table.now c.args.key.now (c.args.levels - 1) c.loop-interface.interface-index c.as_slice-interface-items.result.now c.facts-facts.result.now.interfaces c.interface-item.result c.as_bytes.result.now
    c.as_slice-interface-items.ensures c.loop-interface-test.true c.interface-item.is c.as_bytes.ensures c.in-None-search.ensures c.loop-interface.invariant

pub returns-in-Some-superclass : goal.returns-in-Some-superclass
returns-in-Some-superclass t c =
    let e : c.args.levels ≡ suc (c.args.levels - 1) = omega arith in
    let l : length c.facts-facts.result.now.interfaces ≤ c.loop-interface.interface-index =
    subst (λ (ys : List Bytes). length ys ≤ c.loop-interface.interface-index) c.as_slice-interface-items.ensures c.loop-interface-test.false
    in
    to-super c.args.table.now c.args.key.now c.args.name.now c.in-Some.class c.facts-facts.result.now c.in-Some.ensures.value c.facts-facts.ensures c.args.levels (c.args.levels - 1) e c.loop-interface.interface-index
    c.search-in-Some-superclass.result l c.in-None.ensures c.loop-interface.invariant
    (super-some c.args.table.now c.args.key.now (c.args.levels - 1) c.facts-facts.result.now.superclass c.in-Some-superclass.above c.as_bytes-in-Some-superclass.result.now c.search-in-Some-superclass.result c.in-Some-superclass.is
    c.as_bytes-in-Some-superclass.ensures c.search-in-Some-superclass.ensures)

pub returns-in-None-superclass : goal.returns-in-None-superclass
returns-in-None-superclass t c =
    let e : c.args.levels ≡ suc (c.args.levels - 1) = omega arith in
    let l : length c.facts-facts.result.now.interfaces ≤ c.loop-interface.interface-index =
    subst (λ (ys : List Bytes). length ys ≤ c.loop-interface.interface-index) c.as_slice-interface-items.ensures c.loop-interface-test.false
    in
    to-super c.args.table.now c.args.key.now c.args.name.now c.in-Some.class c.facts-facts.result.now c.in-Some.ensures.value c.facts-facts.ensures c.args.levels (c.args.levels - 1) e c.loop-interface.interface-index None l
    c.in-None.ensures c.loop-interface.invariant (super-none c.args.table.now c.args.key.now (c.args.levels - 1) c.facts-facts.result.now.superclass c.in-None-superclass.is)
