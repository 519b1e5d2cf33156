use Rattle.std.proofs.Common.{◌≡◌, ◌<◌, ◌≤◌, ℕ, Option, None, [], get_or, length, sym, ◌∙◌, subst, arith}
use Rattle.std.specs.Prelude.{IfSome}
use Rattle.std.proofs.lemmas.List.{get_or_default}
use Rattle.jc_facts.specs.world.Loading.{fault_of_interface}
use Rattle.jc_facts.specs.world.World.{size}
use Rattle.jc_index.specs.Ids.{name_at}
use Rattle.jc_loading.proofs.Entering.{first-found, first-next, first-end}
use Rattle.jc_index.proofs.Keeps.{interface-at, interfaces-count}
use Rattle.jc_loading.proofs.supertypes.own_interfaces_fault.Goals as goal

pub interface_fault-requires : goal.interface_fault-requires
interface_fault-requires c =
    subst (λ (o : Option ℕ). IfSome o (λ id. id < size c.args.index.now)) (sym c.above-item.is) (c.interfaces-above-items.ensures.of_table c.loop-above.above-index c.above-item.result c.loop-above-test.true)

pub returns-in-Some : goal.returns-in-Some
returns-in-Some c =
    let W = c.args.index.now in
    let xs = c.args.class.now.interfaces in
    let i = c.loop-above.above-index in
    let h = interface-at W (name_at W c.args.id) c.args.class.now c.interfaces-above-items.result.now i c.above-item.result c.requires.at c.interfaces-above-items.ensures.value c.loop-above-test.true c.above-item.is in
    sym (c.loop-above.invariant ∙ first-found (fault_of_interface W c.args.class.now) xs i (get_or xs i []) c.in-Some.fault h.0 (get_or_default xs i [] (get_or xs i []) h.0) (sym (c.in-Some.ensures (get_or xs i []) h.1)))

pub loop-above-preserved : goal.loop-above-preserved
loop-above-preserved c =
    let W = c.args.index.now in
    let xs = c.args.class.now.interfaces in
    let i = c.loop-above.above-index in
    let h = interface-at W (name_at W c.args.id) c.args.class.now c.interfaces-above-items.result.now i c.above-item.result c.requires.at c.interfaces-above-items.ensures.value c.loop-above-test.true c.above-item.is in
    let n : fault_of_interface W c.args.class.now (get_or xs i []) ≡ None = sym (c.interface_fault.ensures (get_or xs i []) h.1) ∙ c.in_default.is in
    c.loop-above.invariant ∙ first-next (fault_of_interface W c.args.class.now) xs i (get_or xs i []) h.0 (get_or_default xs i [] (get_or xs i []) h.0) n

pub returns : goal.returns
returns c =
    let W = c.args.index.now in
    let xs = c.args.class.now.interfaces in
    let e = interfaces-count W (name_at W c.args.id) c.args.class.now c.interfaces-above-items.result.now c.requires.at c.interfaces-above-items.ensures.value in
    let l : length xs ≤ c.loop-above.above-index = omega (arith, e, c.loop-above-test.false) in
    sym (c.loop-above.invariant ∙ first-end (fault_of_interface W c.args.class.now) xs c.loop-above.above-index l)
