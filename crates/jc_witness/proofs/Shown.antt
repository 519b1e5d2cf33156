-- What is written of the planned class files is a witness.
use Rattle.std.proofs.Common.{◌≡◌, ◌+◌, Bool, true, false, cond, List, [], ◌∷◌, map, Some, None, refl, sym, ◌∙◌, ap, subst, is_some, All, Contains}
use Rattle.std.specs.List.{count_by}
use Rattle.std.proofs.lemmas.List.Elements.{All-contains, All-from_recursion}
use Rattle.std.proofs.lemmas.List.Sums.{sum_by-cons}
use Rattle.jc_facts.specs.declared.blueprint.Blueprint.{Blueprint}
use Rattle.jc_facts.specs.declared.class_facts.ClassFacts.{ClassFacts}
use Rattle.jc_facts.specs.declared.client.ClientClass.{ClientClass}
use Rattle.jc_facts.specs.declared.finding.Finding.{Finding}
use Rattle.jc_facts.specs.declared.link_error.LinkError.{LinkError}
use Rattle.jc_facts.specs.declared.verdict.Cause.{Cause}
use Rattle.jc_facts.specs.declared.verdict.Cause.TheVariants as cause
use Rattle.jc_facts.specs.declared.verdict.Verdict.{Verdict}
use Rattle.jc_facts.specs.client.Valid.{facts_of}
use Rattle.jc_facts.specs.Exactly.{Before, NamesRise, Rises}
use Rattle.jc_facts.specs.Names.{Bytes, same}
use Rattle.jc_promises.specs.plan.Planned.{Plan, planned, planned_for, spot_of}
use Rattle.jc_promises.specs.plan.PlannedBodies.{planned_files}
use Rattle.jc_promises.specs.rule.Collisions.{CollisionStands}
use Rattle.jc_promises.specs.rule.Findings.{Stands}
use Rattle.jc_promises.specs.rule.Verdict.{IsVerdict}
use Rattle.jc_facts.specs.world.World.{World, with_clients}
use Rattle.jc_facts.proofs.Same.{same_is}
use Rattle.jc_lemmas.proofs.Listed.{EachOf, each_from}
use Rattle.jc_complete.specs.Completeness.{FailsBy, PlannedMeet}
use Rattle.jc_bodies.specs.Files.{AreFilesOf, CanWrite, FilesShow, IsFileOf}
use Rattle.jc_bodies.proofs.FilesWhole.{each_has_its_files}
use Rattle.jc_sides.specs.SidesOf.{SidesOf}
use Rattle.jc_witness.specs.declared.planned_files.PlannedFiles.{PlannedFiles}
use Rattle.jc_witness.specs.declared.witness.WitnessFile.{WitnessFile}
use Rattle.jc_witness.specs.Ground.{HasShortSide, IsGround}
use Rattle.jc_witness.specs.Witnesses.{HasCause, StandsInVerdict, error_of, written_file, witness_files, AreReadAs, FailsAt, FailAtSpots, IsWitness, IsWitnessOf, MeetsOnly}
use Rattle.jc_witness.specs.steps.PlanFiles.{IsReady, AreFilesOfPlan, CanBeWritten, class_of_file, written_files, in_order}
use Rattle.jc_witness.proofs.Ground.{can_write}
use Rattle.jc_witness.proofs.Sorted.{one_of_name}

-- ---- of files and clients in their places

each_ready : (bs : List Blueprint) (cs : List ClientClass) → AreFilesOf bs cs → EachOf IsReady bs
each_ready [] cs t = tt
each_ready (b ∷ bs) [] t = absurd t
each_ready (b ∷ bs) (c ∷ cs) t = let h : IsFileOf b c = t.0 in (record { formed = h.writable.formed; fits = h.fits }, each_ready bs cs t.1)

-- the files' names rise where the clients' do
rise : (bs : List Blueprint) (cs : List ClientClass) → AreFilesOf bs cs → NamesRise (λ (c : ClientClass). c.facts.name) cs → NamesRise class_of_file bs
unfolding Rises
rise [] cs t r = tt
rise (b ∷ bs) [] t r = absurd t
rise (b ∷ bs) (c ∷ cs) t r =
    let h : IsFileOf b c = t.0 in
    (later b.facts.name bs cs t.1 (subst (λ (f : ClassFacts). EachOf (λ (d : ClientClass). Before f.name d.facts.name) cs) (sym h.facts) r.0), rise bs cs t.1 r.1)
  where
    later : (x : Bytes) (bs : List Blueprint) (cs : List ClientClass) → AreFilesOf bs cs → EachOf (λ (d : ClientClass). Before x d.facts.name) cs → EachOf (λ (a : Blueprint). Before x a.facts.name) bs
    later x [] cs t k = tt
    later x (a ∷ bs) [] t k = absurd t
    later x (a ∷ bs) (d ∷ cs) t k = let h : IsFileOf a d = t.0 in (subst (λ (f : ClassFacts). Before x f.name) (sym h.facts) k.0, later x bs cs t.1 k.1)

read_each : (p : Plan) (bs : List Blueprint) (cs : List ClientClass) → AreFilesOf bs cs → AreReadAs (map (written_file p) bs) cs
read_each p [] [] t = tt
read_each p [] (c ∷ cs) t = absurd t
read_each p (b ∷ bs) [] t = absurd t
read_each p (b ∷ bs) (c ∷ cs) t = let h : IsFileOf b c = t.0 in (record { name = ap (λ (f : ClassFacts). f.name) h.facts; facts = h.reads; items = h.items }, read_each p bs cs t.1)

spots : (p : Plan) (bs : List Blueprint) → count_by (λ (f : WitnessFile). is_some f.spot) (map (written_file p) bs) ≡ count_by (λ (b : Blueprint). is_some (spot_of p b.facts.name)) bs
spots p [] = refl
spots p (b ∷ bs) =
    sum_by-cons (λ (f : WitnessFile). cond (is_some f.spot) 1 0) (written_file p b) (map (written_file p) bs)
    ∙ ap (λ n. cond (is_some (spot_of p b.facts.name)) 1 0 + n) (spots p bs)
    ∙ sym (sum_by-cons (λ (b : Blueprint). cond (is_some (spot_of p b.facts.name)) 1 0) b bs)

-- ---- the client at the spot

module _ (W : World) (error : LinkError) (p : Plan) (all : List ClientClass) (r : NamesRise (λ (c : ClientClass). c.facts.name) all) (s : ClientClass) (is_in : Contains all s) (named : s.facts.name ≡ p.name) (fails : FailsBy W s p.spot error) where
  at_spot : (x : Bytes) (c : ClientClass) → x ≡ c.facts.name → Contains all c → FailsAt W c (spot_of p x) error
  at_spot x c e k = go (same x p.name) refl
    where
      go : (b : Bool) → same x p.name ≡ b → FailsAt W c (cond b (Some p.spot) None) error
      go true q =
          let is : s ≡ c = one_of_name (λ (c : ClientClass). c.facts.name) all s c r is_in k (named ∙ sym (same_is x p.name q) ∙ e) in
          subst (λ (d : ClientClass). FailsBy W d p.spot error) is fails
      go false q = tt

  fail_each : (bs : List Blueprint) (cs : List ClientClass) → AreFilesOf bs cs → EachOf (λ c. Contains all c) cs → FailAtSpots W error (map (written_file p) bs) cs
  fail_each [] cs t k = tt
  fail_each (b ∷ bs) [] t k = absurd t
  fail_each (b ∷ bs) (c ∷ cs) t k = let h : IsFileOf b c = t.0 in (at_spot b.facts.name c (ap (λ (f : ClassFacts). f.name) h.facts) k.0, fail_each bs cs t.1 k.1)

-- ---- the whole

ready : (O N : World) (e : Cause) (error : LinkError) → FilesShow O N e error → NamesRise class_of_file (planned_files O N e) × All IsReady (planned_files O N e)
ready O N e error s = (rise (planned_files O N e) (planned O N e) s.files s.show.0, All-from_recursion IsReady (planned_files O N e) (each_ready (planned_files O N e) (planned O N e) s.files))

pub is_witness : (O N : World) (e : Cause) (error : LinkError) → FilesShow O N e error → IsWitness O N error (witness_files O N e) (planned O N e)
is_witness O N e error s = record {
  read = read_each (planned_for O N e) (planned_files O N e) (planned O N e) s.files;
  in_scope = s.show.1.in_scope;
  allowed_names = s.show.1.allowed_names;
  links = s.show.1.links;
  one_spot = spots (planned_for O N e) (planned_files O N e) ∙ s.one_spot;
  fails = fail_each (with_clients N (facts_of (planned O N e))) error (planned_for O N e) (planned O N e) s.show.0 s.show.1.spot s.show.1.is_in s.show.1.name s.show.1.fails
      (planned_files O N e) (planned O N e) s.files (each_from (Contains (planned O N e)) (planned O N e) (λ c k. k));
}

-- ---- causes of a verdict

pub finding_stands : (O N : World) (f : Finding) → StandsInVerdict O N (cause.Finding f) → Stands O N f
finding_stands O N f s = All-contains (Stands O N) s.verdict.findings f s.is.findings.sound s.has

-- each verdict on the two sides has the cause
has : (O N : World) (e : Cause) (v : Verdict) → StandsInVerdict O N e → IsVerdict O N v → HasCause v e
has O N (cause.Finding f) v s is = is.findings.complete f (finding_stands O N f s)
has O N (cause.Collision c) v s is = is.collisions.complete c (All-contains (CollisionStands O N) s.verdict.collisions c s.is.collisions.sound s.has)

module _ (O N : World) (can : CanWrite O N) where
  shown : (e : Cause) → StandsInVerdict O N e → FilesShow O N e (error_of e)
  shown (cause.Finding f) s =
      (All-contains (λ f. FilesShow O N (cause.Finding f) f.error × All (λ c. PlannedMeet O N (cause.Finding f) c → ⊥) s.verdict.collisions) s.verdict.findings f
      (each_has_its_files O N s.verdict can s.is).0 s.has).0
  shown (cause.Collision c) s =
      (All-contains (λ c. FilesShow O N (cause.Collision c) c.error × PlannedMeet O N (cause.Collision c) c) s.verdict.collisions c
      (each_has_its_files O N s.verdict can s.is).1 s.has).0

  met : (e : Cause) (v : Verdict) → IsVerdict O N v → HasCause v e → MeetsOnly O e v (planned O N e)
  met (cause.Finding f) v is k =
      (All-contains (λ f. FilesShow O N (cause.Finding f) f.error × All (λ c. PlannedMeet O N (cause.Finding f) c → ⊥) v.collisions) v.findings f
      (each_has_its_files O N v can is).0 k).1
  met (cause.Collision c) v is k =
      (All-contains (λ c. FilesShow O N (cause.Collision c) c.error × PlannedMeet O N (cause.Collision c) c) v.collisions c
      (each_has_its_files O N v can is).1 k).1

-- ---- over two sides on which clients can be planned

module _ (s : SidesOf) (g : IsGround s) (old : HasShortSide s.old) (new : HasShortSide s.new) (e : Cause) (k : StandsInVerdict s.old s.new e) (r : PlannedFiles) (is : AreFilesOfPlan s e r) where
  show : FilesShow s.old s.new e (error_of e)
  show = shown s.old s.new (can_write s g old new) e k

  pub can_be_written : CanBeWritten r
  can_be_written = let p = ready s.old s.new e (error_of e) show in subst CanBeWritten (sym is) (record { differ = p.0; ready = p.1 })

  pub witnessed : (fs : List WitnessFile) → fs ≡ written_files (in_order r) → IsWitnessOf s.old s.new e fs
  witnessed fs q = record {
    files = files;
    shows = subst (λ (xs : List WitnessFile). IsWitness s.old s.new (error_of e) xs (planned s.old s.new e)) (sym files) (is_witness s.old s.new e (error_of e) show);
    meets = λ v j. met s.old s.new (can_write s g old new) e v j (has s.old s.new e v k j);
  }
    where
      files : fs ≡ witness_files s.old s.new e
      files = ◌∙◌ {A = List WitnessFile} q (ap (λ (x : PlannedFiles). written_files (in_order x)) is)
