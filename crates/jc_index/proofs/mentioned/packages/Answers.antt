use Rattle.std.proofs.Common.{◌≡◌, ◌∷◌, [], ◌∙◌, ap, subst}
use Rattle.std.proofs.Math.Bool.{or-false}
use Rattle.jc_facts.specs.Names.{Bytes, same, package_name}
use Rattle.jc_index.specs.steps.Adding.{AddsNames}
use Rattle.jc_index.proofs.Mentions.{are_of_next, are_of_all}
use Rattle.jc_index.proofs.mentioned.packages.Goals as goal

pub loop-class-preserved : goal.loop-class-preserved
loop-class-preserved c =
    let name : c.package_of.result.now ≡ package_name c.class-item.result.name = c.package_of.ensures ∙ ap package_name c.as_bytes.ensures in
    are_of_next (λ d x. same (package_name d.name) x) c.args.classes.now c.loop-class.class-index c.class-item.result c.loop-class.set c.put_bytes.new.self (package_name c.class-item.result.name ∷ [])
    c.loop-class-test.true c.class-item.is (λ x. or-false (same (package_name c.class-item.result.name) x))
    (subst (λ (x : Bytes). AddsNames c.loop-class.set c.put_bytes.new.self (x ∷ [])) name c.in_ok-put_bytes.ensures) c.loop-class.invariant

pub returns : goal.returns
returns c = are_of_all (λ d x. same (package_name d.name) x) c.args.classes.now c.loop-class.class-index c.loop-class.set c.loop-class-test.false c.loop-class.invariant
