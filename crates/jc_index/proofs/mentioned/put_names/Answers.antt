use Rattle.std.proofs.Common.{List, subst, ◌∷◌, [], length, sym, ap, ◌∙◌, get_or, arith}
use Rattle.jc_facts.specs.Names.{Bytes}
use Rattle.jc_index.specs.steps.Adding.{AddsNames}
use Rattle.jc_index.proofs.Mentions.{adds_next, adds_found, adds_all}
use Rattle.jc_index.proofs.mentioned.put_names.Goals as goal

pub loop-at-preserved-then-is_some : goal.loop-at-preserved-then-is_some
loop-at-preserved-then-is_some c = adds_found c.args.set.now c.loop-at.set c.args.names.now c.loop-at.at c.earlier.result c.earlier.ensures (sym c.if-is_some.true ∙ c.is_some.ensures) c.loop-at.invariant

pub loop-at-preserved : goal.loop-at-preserved
loop-at-preserved c =
    adds_next c.args.set.now c.loop-at.set c.put.new.self c.args.names.now c.loop-at.at c.index-list-at.result (omega (arith, c.loop-at-test.true, ap length c.as_slice-list.ensures))
    (c.index-list-at.is ∙ ap (λ (xs : List Bytes). get_or xs c.loop-at.at c.index-list-at.result) c.as_slice-list.ensures) c.loop-at.invariant
    (subst (λ (x : Bytes). AddsNames c.loop-at.set c.put.new.self (x ∷ [])) c.in_ok-copy.ensures c.in_ok-put.ensures.adds)

pub returns : goal.returns
returns c = adds_all c.args.set.now c.loop-at.set c.args.names.now c.loop-at.at (omega (arith, c.loop-at-test.false, ap length c.as_slice-list.ensures)) c.loop-at.invariant
