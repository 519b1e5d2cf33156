use Rattle.std.proofs.Common.{◌≡◌, [], refl, ◌∙◌, codes}
use Rattle.std.specs.List.{cons_option}
use Rattle.jc_witness.specs.steps.MoreInits.{with_inits}
use Rattle.jc_witness.proofs.InitParts.{begun, used, behind_client}
use Rattle.jc_witness.proofs.exposed_plans.client_behind.Goals as goal

pub returns : goal.returns
returns c =
    let O = c.args.planner.now.old in
    let y = c.args.name.now in
    let a = c.args.seat.now in
    let fields = cons_option c.args.field [] in
    let acts = c.args.acts.now in
    let s = c.args.from.now in
    let t = c.args.to.now in
    let made : c.finish.result ≡ used O y a fields acts s t (with_inits (begun O y a fields acts s t) a (codes "I") acts) =
    rw (
      c.finish.ensures,
      c.in_ok-draft-3.ensures,
      c.in_ok-static_use.ensures,
      c.in_ok-descriptor.ensures,
      c.body.ensures,
      c.in_ok-steps.ensures,
      c.in_ok-draft-2.ensures,
      c.in_ok-draft.ensures,
      c.in_ok-copy.ensures,
      c.as_slice.ensures.value,
      c.in_ok-before.ensures,
    ) refl in
    made ∙ behind_client O y a fields acts s t
