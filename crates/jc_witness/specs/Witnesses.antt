-- The files of a witness, and what they show.
--     witness_files O N e      the planned class files of the cause e as they are written, with the spot at the one that fails
--     IsWitnessOf O N e fs      the files are these, they show the error of the cause, and of the collisions they meet what they should
--     IsWitness O N error fs cs      the files are read as the clients, which link with the old side and fail with the new at the one spot
--     MeetsOnly O e v cs      of the verdict's collisions the clients of a finding meet none, and those of a collision that one
use Rattle.std.specs.Prelude.{◌≡◌, List, [], ◌∷◌, map, Option, Some, None, Ok, is_some, IsTrue}
use Rattle.std.specs.List.{All, Contains, count_by}
use Rattle.jc_facts.specs.declared.blueprint.Blueprint.{Blueprint}
use Rattle.jc_facts.specs.declared.client.ClientClass.{ClientClass}
use Rattle.jc_facts.specs.declared.link_error.LinkError.{LinkError}
use Rattle.jc_facts.specs.declared.verdict.Cause.{Cause}
use Rattle.jc_facts.specs.declared.verdict.Cause.TheVariants as cause
use Rattle.jc_facts.specs.declared.verdict.Spot.{Spot}
use Rattle.jc_facts.specs.declared.verdict.Verdict.{Verdict}
use Rattle.jc_promises.specs.client.Scope.{IsInScope}
use Rattle.jc_facts.specs.client.Valid.{facts_of}
use Rattle.jc_promises.specs.client.Meets.{Meets}
use Rattle.jc_facts.specs.code.ClientItems.{items as items_in}
use Rattle.jc_facts.specs.file.ClassGrammar.{Reads}
use Rattle.jc_promises.specs.plan.Planned.{Plan, planned, planned_for, spot_of}
use Rattle.jc_promises.specs.plan.PlannedBodies.{planned_files}
use Rattle.jc_promises.specs.rule.Bases.{allowed}
use Rattle.jc_promises.specs.rule.Verdict.{IsVerdict}
use Rattle.jc_facts.specs.world.World.{World, with_clients}
use Rattle.jc_facts.specs.written.Written.{written}
use Rattle.jc_complete.specs.Completeness.{FailsBy, LinksWhole}
use Rattle.jc_witness.specs.declared.witness.WitnessFile.{WitnessFile}

-- ---- of which causes witnesses are made

-- the verdict has the cause
abbrev pub HasCause : Verdict → Cause → Type 0
HasCause v (cause.Finding f) = Contains v.findings f
HasCause v (cause.Collision c) = Contains v.collisions c

-- the cause stands in the verdict on the two sides
pub record StandsInVerdict (O N : World) (e : Cause) : Type 0 where
  pub verdict : Verdict
  pub is : IsVerdict O N verdict
  pub has : HasCause verdict e

-- the error that clients have
abbrev pub error_of : Cause → LinkError
error_of (cause.Finding f) = f.error
error_of (cause.Collision c) = c.error

-- ---- the files

-- a class file as it is written, with its spot in the plan
abbrev pub written_file : Plan → Blueprint → WitnessFile
written_file p b = record { «class» = b.facts.name; bytes = written b; spot = spot_of p b.facts.name }

-- those of the cause, in byte order of names
abbrev pub witness_files : World → World → Cause → List WitnessFile
witness_files O N e = map (written_file (planned_for O N e)) (planned_files O N e)

-- ---- what they show

-- the file is read as the client, and has its name
pub record IsReadAs (f : WitnessFile) (c : ClientClass) : Type 0 where
  pub name : f.«class» ≡ c.facts.name
  pub facts : Reads f.bytes c.facts
  pub items : items_in f.bytes ≡ Ok c.items

-- each file is read as the client in its place
abbrev pub AreReadAs : List WitnessFile → List ClientClass → Type 0
AreReadAs [] [] = Unit {0}
AreReadAs [] (c ∷ cs) = ⊥
AreReadAs (f ∷ fs) [] = ⊥
AreReadAs (f ∷ fs) (c ∷ cs) = IsReadAs f c × AreReadAs fs cs

-- the client has this error at the spot, where there is one
abbrev pub FailsAt : World → ClientClass → Option Spot → LinkError → Type 0
FailsAt W c None error = Unit {0}
FailsAt W c (Some s) error = FailsBy W c s error

-- the client in the place of each file with a spot has this error there
abbrev pub FailAtSpots : World → LinkError → List WitnessFile → List ClientClass → Type 0
FailAtSpots W error [] cs = Unit {0}
FailAtSpots W error (f ∷ fs) [] = Unit {0}
FailAtSpots W error (f ∷ fs) (c ∷ cs) = FailsAt W c f.spot error × FailAtSpots W error fs cs

-- the files are read as the clients, in order. These are in scope, by allowed names, and link whole with the old side. Exactly one file has a spot, and
-- there its client has this error with the new side
pub record IsWitness (O N : World) (error : LinkError) (fs : List WitnessFile) (cs : List ClientClass) : Type 0 where
  pub read : AreReadAs fs cs
  pub in_scope : IsInScope O N cs
  pub allowed_names : All (λ c. IsTrue (allowed O N c.facts.name)) cs
  pub links : All (LinksWhole (with_clients O (facts_of cs)) cs) cs
  pub one_spot : count_by (λ (f : WitnessFile). is_some f.spot) fs ≡ 1
  pub fails : FailAtSpots (with_clients N (facts_of cs)) error fs cs

-- the clients of a finding meet no collision of the verdict, and those of a collision meet it
abbrev pub MeetsOnly : World → Cause → Verdict → List ClientClass → Type 0
MeetsOnly O (cause.Finding f) v cs = All (λ c. ¬ (Meets (with_clients O (facts_of cs)) cs c)) v.collisions
MeetsOnly O (cause.Collision c) v cs = Meets (with_clients O (facts_of cs)) cs c

-- all that is promised of the files of a cause: they are the planned ones, in byte order of names, and show its error by clients that meet
-- what they should of each verdict on the two sides
pub record IsWitnessOf (O N : World) (e : Cause) (fs : List WitnessFile) : Type 0 where
  pub files : fs ≡ witness_files O N e
  pub shows : IsWitness O N (error_of e) fs (planned O N e)
  pub meets : (v : Verdict) → IsVerdict O N v → MeetsOnly O e v (planned O N e)
