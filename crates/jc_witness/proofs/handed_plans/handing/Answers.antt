use Rattle.std.proofs.Common.{◌≡◌, ◌≤◌, ◌+◌, [], ◌∷◌, ◌++◌, length, refl, sym, subst, ◌∙◌, codes, IfOk}
use Rattle.std.specs.List.{All}
use Rattle.jc_facts.specs.declared.verdict.Spot.TheVariants as spot
use Rattle.jc_promises.specs.plan.Planned.{acts_exposing, class_behind, field_of_hidden, static_field, reads_hidden}
use Rattle.jc_promises.specs.plan.PlannedBodies.{blueprint, behind_bodies}
use Rattle.jc_promises.specs.plan.PlannedNames.{in_package, first_name, second_name}
use Rattle.jc_witness.specs.Exposing.{CanReceive}
use Rattle.jc_witness.specs.declared.planned_files.PlannedFiles.{PlannedFiles}
use Rattle.jc_witness.specs.steps.MoreInits.{items_of_acts}
use Rattle.jc_witness.specs.steps.PlanFiles.{ending_with, package_of}
use Rattle.jc_witness.proofs.Handing.{two_with_read, receive_with_read}
use Rattle.jc_witness.proofs.InitParts.{handed_file}
use Rattle.jc_witness.proofs.handed_plans.handing.Goals as goal

pub client_behind-requires-clause-receive : goal.client_behind-requires-clause-receive
client_behind-requires-clause-receive c =
    let O = c.args.planner.now.old in
    subst (All (CanReceive O)) (sym (c.as_slice.ensures.value ∙ c.in_ok-acts.ensures)) (receive_with_read O (acts_exposing O c.args.other.now c.args.to.now) c.in_ok-first.first c.args.from.now c.requires.second.receive)

pub count_items-requires : goal.count_items-requires
count_items-requires c =
    subst (λ acts. length acts ≤ 2) (sym (c.as_slice-2.ensures.value ∙ c.in_ok-acts.ensures)) (two_with_read c.args.planner.now.old c.args.other.now c.args.to.now c.in_ok-first.first c.args.from.now)

pub returns : goal.returns
returns c =
    let O = c.args.planner.now.old in
    let N = c.args.planner.now.new in
    let w = package_of c.args.planner.now in
    let s = c.args.from.now in
    let t = c.args.to.now in
    let a = c.args.seat.now in
    let b = c.args.other.now in
    let z = first_name O N (in_package w (codes "Z")) a b in
    let y = second_name O N (in_package w (codes "Y")) z b in
    let acts = acts_exposing O b t ++ reads_hidden z s ∷ [] in
    let made : ending_with c.in_ok-single.field-0.items c.in_ok-taker.taker (spot.Item (c.count_items.result + 1))
    ≡ ending_with (blueprint (class_behind O z a (static_field (field_of_hidden s) ∷ []) (acts_exposing O a s) s s []) (behind_bodies O (acts_exposing O a s) a) ∷ []) (blueprint (class_behind O y b [] acts s t []) (behind_bodies O acts b)) (spot.Item (items_of_acts acts + 1)) =
    rw (
      c.in_ok-single.ensures,
      c.in_ok-holder.ensures,
      c.in_ok-taker.ensures,
      c.count_items.ensures.value,
      c.as_slice.ensures.value,
      c.as_slice-2.ensures.value,
      c.in_ok-acts.ensures,
      c.in_ok-name.ensures,
      c.in_ok-first.ensures,
    ) refl in
    subst (λ x. IfOk c.ending_with.result (λ (files : PlannedFiles). files ≡ x)) (made ∙ handed_file O N w s t a b) c.ending_with.ensures
