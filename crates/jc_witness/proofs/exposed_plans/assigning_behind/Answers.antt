use Rattle.std.proofs.Common.{◌≡◌, ◌+◌, [], refl, ◌∙◌, subst, codes, IfOk}
use Rattle.jc_facts.specs.declared.verdict.Spot.TheVariants as spot
use Rattle.jc_promises.specs.plan.Planned.{class_behind}
use Rattle.jc_promises.specs.plan.PlannedBodies.{blueprint, behind_bodies}
use Rattle.jc_promises.specs.plan.PlannedNames.{in_package, own_name}
use Rattle.jc_witness.specs.declared.planned_files.PlannedFiles.{PlannedFiles}
use Rattle.jc_witness.specs.steps.MoreInits.{items_of_acts}
use Rattle.jc_witness.specs.steps.PlanFiles.{ending_with, package_of}
use Rattle.jc_witness.proofs.InitParts.{behind_file}
use Rattle.jc_witness.proofs.exposed_plans.assigning_behind.Goals as goal

pub returns : goal.returns
returns c =
    let O = c.args.planner.now.old in
    let N = c.args.planner.now.new in
    let w = package_of c.args.planner.now in
    let acts = c.args.acts.now in
    let s = c.args.from.now in
    let t = c.args.to.now in
    let a = c.args.seat.now in
    let made : ending_with [] c.in_ok-file.file (spot.Item (c.count_items.result + 1)) ≡ ending_with [] (blueprint (class_behind O (own_name O N (in_package w (codes "Y")) a) a [] acts s t []) (behind_bodies O acts a)) (spot.Item (items_of_acts acts + 1)) =
    rw (c.in_ok-file.ensures, c.in_ok-name.ensures, c.count_items.ensures.value) refl in
    subst (λ x. IfOk c.one.result (λ (files : PlannedFiles). files ≡ x)) (made ∙ behind_file O N w acts s t a) c.one.ensures
