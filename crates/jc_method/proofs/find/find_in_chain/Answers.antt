use Rattle.std.proofs.Common.{◌≡◌, ◌<◌, ◌-◌, ◌+◌, ℕ, suc, Option, Some, None, refl, sym, subst, ◌∙◌, arith}
use Rattle.std.specs.Prelude.{IfSome}
use Rattle.jc_facts.specs.world.World.{size}
use Rattle.jc_facts.specs.world.Hierarchy.{chain}
use Rattle.jc_facts.specs.world.Lookup.{first_declared}
use Rattle.jc_index.specs.Ids.{name_at}
use Rattle.jc_index.specs.Lookups.{IsAnswer}
use Rattle.jc_method.proofs.Chains.{first_starts, first_here, first_above, first_out, first_end, no_answer}
use Rattle.jc_method.proofs.find.find_in_chain.Goals as goal

pub loop-done-init : goal.loop-done-init
loop-done-init c = (c.requires, first_starts c.args.table.now c.args.class (size c.args.table.now - 0) c.args.key.now (omega arith))

pub returns-in_default : goal.returns-in_default
returns-in_default c =
    let e : c.loop-done.next ≡ None = cc in
    no_answer c.args.table.now (first_declared c.args.key.now (chain c.args.table.now (name_at c.args.table.now c.args.class)))
    (c.loop-done.invariant.1 ∙ first_out c.args.table.now c.count-done-end.ensures.side.differ c.args.key.now (size c.args.table.now - c.loop-done.done) c.loop-done.next e)

pub declared-requires : goal.declared-requires
declared-requires c = subst (λ (o : Option ℕ). IfSome o (λ id. id < size c.args.table.now)) c.in-Some.is c.loop-done.invariant.0

pub returns-in-Some-declared : goal.returns-in-Some-declared
returns-in-Some-declared c =
    let q : size c.args.table.now - c.loop-done.done ≡ suc (size c.args.table.now - (c.loop-done.done + 1)) = omega (arith, c.count-done-end.ensures.count) in
    let l : c.in-Some.class < size c.args.table.now = subst (λ (o : Option ℕ). IfSome o (λ id. id < size c.args.table.now)) c.in-Some.is c.loop-done.invariant.0 in
    subst (IsAnswer c.args.table.now (Some c.in-Some-declared.found)) (sym c.loop-done.invariant.1)
    (first_here c.args.table.now c.count-done-end.ensures.side.differ c.args.key.now (size c.args.table.now - c.loop-done.done) (size c.args.table.now - (c.loop-done.done + 1)) c.in-Some.class c.loop-done.next
    (Some c.in-Some-declared.found) c.in-Some-declared.found q c.in-Some.is l c.in-Some-declared.ensures refl)

pub loop-done-preserved : goal.loop-done-preserved
loop-done-preserved c =
    let q : size c.args.table.now - c.loop-done.done ≡ suc (size c.args.table.now - (c.loop-done.done + 1)) = omega (arith, c.count-done-end.ensures.count) in
    let l : c.in-Some.class < size c.args.table.now = subst (λ (o : Option ℕ). IfSome o (λ id. id < size c.args.table.now)) c.in-Some.is c.loop-done.invariant.0 in (
      c.superclass-next.ensures.of_table,
      c.loop-done.invariant.1
          ∙ first_above c.args.table.now c.count-done-end.ensures.side.differ c.args.key.now (size c.args.table.now - c.loop-done.done) (size c.args.table.now - (c.loop-done.done + 1)) c.in-Some.class c.loop-done.next
          c.superclass-next.result None q c.in-Some.is l c.in-None.ensures refl c.superclass-next.ensures.value,
    )

pub returns : goal.returns
returns c =
    let z : size c.args.table.now - c.loop-done.done ≡ 0 = omega (arith, c.count-done-end.ensures.count) in
    no_answer c.args.table.now (first_declared c.args.key.now (chain c.args.table.now (name_at c.args.table.now c.args.class)))
    (c.loop-done.invariant.1 ∙ first_end c.args.table.now c.count-done-end.ensures.side.differ c.args.key.now (size c.args.table.now - c.loop-done.done) c.loop-done.next z)
