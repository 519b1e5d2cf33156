-- The class files of planned clients: what is written of them is read back as the clients, so the bytes show each finding and each collision.
use Rattle.std.specs.Prelude.{◌≡◌, List, [], ◌∷◌, All, Ok, IsTrue, is_some, count_by}
use Rattle.jc_facts.specs.declared.blueprint.Blueprint.{Blueprint}
use Rattle.jc_facts.specs.declared.client.ClientClass.{ClientClass}
use Rattle.jc_facts.specs.declared.link_error.LinkError.{LinkError}
use Rattle.jc_facts.specs.declared.verdict.Cause.{Cause}
use Rattle.jc_facts.specs.declared.verdict.Cause.TheVariants as cause
use Rattle.jc_facts.specs.declared.verdict.Verdict.{Verdict}
use Rattle.jc_facts.specs.world.World.{World}
use Rattle.jc_facts.specs.file.ClassGrammar.{Reads}
use Rattle.jc_facts.specs.file.ShortNames.{HasShortNames}
use Rattle.jc_facts.specs.code.ClientItems.{items as items_in}
use Rattle.jc_facts.specs.written.Written.{written, HasShortFlags, fits_whole}
use Rattle.jc_facts.specs.written.TypedItems.{typed_items, IsWritable}
use Rattle.jc_promises.specs.plan.Planned.{planned, planned_for, spot_of}
use Rattle.jc_promises.specs.plan.PlannedBodies.{planned_files}
use Rattle.jc_promises.specs.rule.Verdict.{IsVerdict}
use Rattle.jc_complete.specs.Completeness.{CanPlan, PlannedShow, PlannedMeet}

-- ---- of what releases it is said

-- clients can be planned for the two sides, and all names are short
pub record CanWrite (O N : World) : Type 0 where
  pub plan : CanPlan O N
  pub platform_short : All HasShortNames O.platform
  pub old_short : All HasShortNames O.release
  pub new_short : All HasShortNames N.release

-- ---- files

-- the class file of a client: its bodies type to the client's items, it can be written and passes no limit of the format, and what is written is
-- read as the client
pub record IsFileOf (b : Blueprint) (c : ClientClass) : Type 0 where
  pub facts : b.facts ≡ c.facts
  pub typed : typed_items b ≡ c.items
  pub writable : IsWritable b
  pub flags : HasShortFlags b.facts
  pub fits : IsTrue (fits_whole b)
  pub reads : Reads (written b) c.facts
  pub items : items_in (written b) ≡ Ok c.items

-- one for each client, in order
abbrev pub AreFilesOf : List Blueprint → List ClientClass → Type 0
AreFilesOf [] [] = Unit {0}
AreFilesOf [] (c ∷ cs) = ⊥
AreFilesOf (b ∷ bs) [] = ⊥
AreFilesOf (b ∷ bs) (c ∷ cs) = IsFileOf b c × AreFilesOf bs cs

-- ---- the law

-- the planned files are read as the planned clients, which show the error, and exactly one of them has the spot
pub record FilesShow (O N : World) (e : Cause) (error : LinkError) : Type 0 where
  pub files : AreFilesOf (planned_files O N e) (planned O N e)
  pub show : PlannedShow O N e error
  pub one_spot : count_by (λ (b : Blueprint). is_some (spot_of (planned_for O N e) b.facts.name)) (planned_files O N e) ≡ 1

-- For each finding and each collision of the verdict the planned files are read as the planned clients, which are in scope, link whole with
-- the old release and fail with the new by the named error at one spot. Those of a finding meet no collision, and those of a collision meet it.
abbrev pub EachHasItsFiles : Type 0
EachHasItsFiles = (O N : World) (v : Verdict) → CanWrite O N → IsVerdict O N v
    → All (λ f. FilesShow O N (cause.Finding f) f.error × All (λ c. ¬ (PlannedMeet O N (cause.Finding f) c)) v.collisions) v.findings
    × All (λ c. FilesShow O N (cause.Collision c) c.error × PlannedMeet O N (cause.Collision c) c) v.collisions
