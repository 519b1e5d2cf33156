-- The law of class files: those of each finding and each collision are read as the planned clients, which show it.
use Rattle.std.proofs.Common.{All}
use Rattle.std.proofs.lemmas.List.Elements.{All-from_recursion, recursion_from_All}
use Rattle.jc_facts.specs.declared.link_error.LinkError.{LinkError}
use Rattle.jc_facts.specs.declared.verdict.Cause.{Cause}
use Rattle.jc_facts.specs.declared.verdict.Cause.TheVariants as cause
use Rattle.jc_promises.specs.rule.Collisions.{CollisionStands}
use Rattle.jc_promises.specs.rule.Findings.{Stands}
use Rattle.jc_facts.specs.world.World.{World}
use Rattle.jc_promises.specs.plan.PlannedNames.{fresh_package}
use Rattle.jc_promises.specs.plan.Planned.{plan, planned, planned_for}
use Rattle.jc_promises.specs.plan.PlannedBodies.{blueprints, plan_bodies, planned_files}
use Rattle.jc_complete.specs.Completeness.{PlannedShow, PlannedMeet}
use Rattle.jc_complete.proofs.CompletenessWhole.{completeness}
use Rattle.jc_lemmas.proofs.Listed.{EachOf-both}
use Rattle.jc_bodies.specs.Files.{AreFilesOf, FilesShow, EachHasItsFiles}
use Rattle.jc_bodies.proofs.CauseFiles.{finding_written, collision_written}
use Rattle.jc_bodies.proofs.FilesInOrder.{files_of, files_sorted, one_spot}
use Rattle.jc_bodies.proofs.RowFiles.{AreWritten}

-- where the plan's class files can be written, and the planned clients show the error
shown_by_files : (O N : World) (e : Cause) (error : LinkError) → (let w = fresh_package O N in AreWritten (plan O N w e).clients (plan_bodies O N w e)) → PlannedShow O N e error → FilesShow O N e error
shown_by_files O N e error w s = record {
  files = files;
  show = s;
  one_spot = one_spot (planned_for O N e) (planned_files O N e) (planned O N e) s.1.spot files s.1.in_scope.differ s.1.is_in s.1.name;
}
  where
    files : AreFilesOf (planned_files O N e) (planned O N e)
    files = files_sorted (blueprints (plan O N (fresh_package O N) e).clients (plan_bodies O N (fresh_package O N) e)) (plan O N (fresh_package O N) e).clients
        (files_of (plan O N (fresh_package O N) e).clients (plan_bodies O N (fresh_package O N) e) w)

pub each_has_its_files : EachHasItsFiles
each_has_its_files O N v can is = (
  All-from_recursion (λ f. FilesShow O N (cause.Finding f) f.error × All (λ c. PlannedMeet O N (cause.Finding f) c → ⊥) v.collisions) v.findings (EachOf-both (λ f s p. (shown_by_files O N (cause.Finding f) f.error (finding_written O N can f s) p.0, p.1)) v.findings
      (recursion_from_All (Stands O N) v.findings is.findings.sound) (recursion_from_All (λ f. PlannedShow O N (cause.Finding f) f.error × All (λ c. PlannedMeet O N (cause.Finding f) c → ⊥) v.collisions) v.findings whole.0)),
  All-from_recursion (λ c. FilesShow O N (cause.Collision c) c.error × PlannedMeet O N (cause.Collision c) c) v.collisions (EachOf-both (λ c s p. (shown_by_files O N (cause.Collision c) c.error (collision_written O N can c s) p.0, p.1)) v.collisions
      (recursion_from_All (CollisionStands O N) v.collisions is.collisions.sound) (recursion_from_All (λ c. PlannedShow O N (cause.Collision c) c.error × PlannedMeet O N (cause.Collision c) c) v.collisions whole.1)),
)
  where
    whole : All (λ f. PlannedShow O N (cause.Finding f) f.error × All (λ c. PlannedMeet O N (cause.Finding f) c → ⊥) v.collisions) v.findings
        × All (λ c. PlannedShow O N (cause.Collision c) c.error × PlannedMeet O N (cause.Collision c) c) v.collisions
    whole = completeness O N v can.plan is
