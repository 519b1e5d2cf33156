use Rattle.std.proofs.lemmas.Result.{IfOk-weaker}
use Rattle.jc_facts.specs.declared.verdict.Cause.TheVariants as cause
use Rattle.jc_witness.proofs.Shown.{can_be_written, witnessed}
use Rattle.jc_witness.proofs.witness.FindingWitnessed.show.Goals as goal

pub files_of-requires : goal.files_of-requires
files_of-requires c =
    can_be_written c.args.planner.now c.package-package.ensures.ground c.requires.old_names c.requires.new_names (cause.Finding c.args.self.now) c.requires.stands c.in_ok-finding_plan.field-0 c.in_ok-finding_plan.ensures

pub returns : goal.returns
returns c =
    IfOk-weaker _ _ _
    (λ files. witnessed c.args.planner.now c.package-package.ensures.ground c.requires.old_names c.requires.new_names (cause.Finding c.args.self.now) c.requires.stands c.in_ok-finding_plan.field-0 c.in_ok-finding_plan.ensures files.items)
    c.files_of.ensures
