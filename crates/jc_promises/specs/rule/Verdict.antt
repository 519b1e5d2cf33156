-- The verdict on a new release: its findings, collisions and notes.
--     IsVerdict O N v      v is the verdict on the new side N, after the old side O
use Rattle.jc_facts.specs.declared.verdict.Verdict.{Verdict}
use Rattle.jc_facts.specs.world.World.{World}
use Rattle.jc_promises.specs.rule.Findings.{Stands}
use Rattle.jc_promises.specs.rule.Collisions.{CollisionStands}
use Rattle.jc_promises.specs.rule.Notes.{NoteStands}
use Rattle.jc_facts.specs.Orders.{finding_order, collision_order, note_order}
use Rattle.jc_facts.specs.Exactly.{HasExactly}

-- the verdict has each finding, each collision and each note that stands once, in order, and no other
pub record IsVerdict (O N : World) (v : Verdict) : Type 0 where
  pub findings : HasExactly finding_order (Stands O N) v.findings
  pub collisions : HasExactly collision_order (CollisionStands O N) v.collisions
  pub notes : HasExactly note_order (NoteStands O N) v.notes
