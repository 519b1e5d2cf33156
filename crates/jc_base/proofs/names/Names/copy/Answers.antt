use Rattle.std.proofs.Common.{length, ap, ◌∙◌, arith}
use Rattle.std.proofs.lemmas.List.{take_all, length-take-le}
use Rattle.jc_base.specs.Again.{IsAgain}
use Rattle.jc_base.proofs.Again.{copied_again, copied_one}
use Rattle.jc_base.proofs.names.Names.copy.Goals as goal

pub push_again-requires : goal.push_again-requires
push_again-requires c =
    let again : IsAgain c.args.self.now c.loop-at.at c.in-Some.earlier = rw c.in-Some.is at c.earlier.ensures in
    omega (arith, again.after, ap length c.loop-at.invariant, length-take-le c.loop-at.at c.as_slice-names.result.now (omega (arith, c.loop-at-test.true)))

pub loop-at-preserved-in-Some : goal.loop-at-preserved-in-Some
loop-at-preserved-in-Some c =
    let again : IsAgain c.as_slice-names.result.now c.loop-at.at c.in-Some.earlier = rw c.as_slice-names.ensures (rw c.in-Some.is at c.earlier.ensures) in
    copied_again c.as_slice-names.result.now c.loop-at.copy c.push_again.new.self c.loop-at.at c.in-Some.earlier again c.loop-at.invariant c.in_ok-push_again.ensures

pub loop-at-preserved : goal.loop-at-preserved
loop-at-preserved c =
    copied_one c.as_slice-names.result.now c.loop-at.copy c.push.new.self c.loop-at.at c.index-names-at.result c.in_ok-copy.field-0 c.loop-at-test.true c.index-names-at.is c.in_ok-copy.ensures c.in_ok-push.ensures c.loop-at.invariant

pub returns : goal.returns
returns c = c.loop-at.invariant ∙ take_all c.loop-at.at c.as_slice-names.result.now c.loop-at-test.false ∙ c.as_slice-names.ensures
