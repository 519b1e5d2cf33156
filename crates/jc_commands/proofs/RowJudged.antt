-- The verdicts on a row of releases.
--     row_judged, row_refused      what the verdicts are, and that one has too many findings
--     row_is      the sides of numbered releases
use Rattle.std.proofs.Common.{◌≡◌, ◌∙◌, inl, inr, List, [], ◌∷◌, map, None, Some, refl, sym, ap, subst}
use Rattle.std.specs.List.{All}
use Rattle.std.proofs.lemmas.List.Elements.{All-from_recursion, recursion_from_All}
use Rattle.jc_facts.specs.declared.class_facts.ClassFacts.{ClassFacts}
use Rattle.jc_facts.specs.declared.verdict.Verdict.{Verdict}
use Rattle.jc_facts.specs.file.Valid.{IsValidClass}
use Rattle.jc_promises.specs.Pairs.{AreOfOneRun}
use Rattle.jc_facts.specs.world.World.{World, side}
use Rattle.jc_lemmas.proofs.Listed.{EachOf, EachOf-map, each_in}
use Rattle.jc_history.specs.History.{AreOfRun, AreVerdictsWithin}
use Rattle.jc_history.specs.Row.{steps_of, KeepsRow}
use Rattle.jc_index.specs.Root.{fault_of_root}
use Rattle.jc_index.proofs.Roots.{has_root}
use Rattle.jc_trees.specs.ClassLists.{IsRecordList}
use Rattle.jc_commands.specs.History.{row_of, mismatch_of_row}
use Rattle.jc_releases.specs.Releases.{numbered, sides_of, mismatch_among}
use Rattle.jc_releases.specs.declared.releases.Release.{Release}
use Rattle.jc_commands.specs.steps.History.{IsCounted, IsJudged, StopsJudging}
use Rattle.jc_releases.specs.steps.Releases.{IsReleaseList, StopsOver}
use Rattle.jc_releases.specs.declared.limits.TheConstants.{MAX_FINDINGS}
use Rattle.jc_releases.specs.declared.stop.Part.TheVariants as parts
use Rattle.jc_releases.specs.declared.stop.Stop.{Stop}
use Rattle.jc_releases.specs.declared.stop.Stop.TheVariants as stops
use Rattle.jc_commands.proofs.Compared.{each_mapped}
use Rattle.jc_commands.proofs.Records.{first_none, unmapped}
use Rattle.jc_commands.proofs.RowShown.{row_borne_out}
use Rattle.jc_commands.proofs.TwoReleases.{row_sides}
use Rattle.jc_commands.proofs.RowVerdicts.{step_verdict}

each_of_run : (platform : List ClassFacts) (releases : List (List ClassFacts)) → EachOf (AreOfOneRun (side platform [])) (row_of platform releases)
each_of_run platform [] = tt
each_of_run platform (r ∷ rs) = (record { old_bare = refl; new_bare = refl; platform = refl; kind = refl }, each_of_run platform rs)

-- sides of one platform without modules are of one run
pub are_of_run : (platform : List ClassFacts) (releases : List (List ClassFacts)) (tables : List World) → tables ≡ row_of platform releases → AreOfRun (side platform []) tables
are_of_run platform releases tables is =
    subst (AreOfRun (side platform [])) (sym is) (All-from_recursion (AreOfOneRun (side platform [])) (row_of platform releases) (each_of_run platform releases))

pub row_judged : (platform : List ClassFacts) (releases : List (List ClassFacts)) (tables : List World) (vs : List Verdict) → IsRecordList platform → EachOf IsRecordList releases → All IsCounted tables
    → tables ≡ row_of platform releases → mismatch_of_row platform releases ≡ None → AreVerdictsWithin (steps_of tables) MAX_FINDINGS (Some vs) → KeepsRow tables vs → IsJudged platform releases vs
row_judged platform releases tables vs ps lists counted is fits exact kept =
    let within : AreVerdictsWithin (steps_of (row_of platform releases)) MAX_FINDINGS (Some vs) = subst (λ (Ws : List World). AreVerdictsWithin (steps_of Ws) MAX_FINDINGS (Some vs)) is exact in
    let each : EachOf IsCounted (row_of platform releases) = subst (EachOf IsCounted) is (recursion_from_All IsCounted tables counted) in
    record {
      verdicts = record { fits = fits; exact = within.0; few = within.1 };
      keeps = subst (λ (Ws : List World). KeepsRow Ws vs) is kept;
      steps = row_borne_out platform releases vs ps lists each within.0;
    }

pub row_refused : (platform : List ClassFacts) (releases : List (List ClassFacts)) (tables : List World) → IsRecordList platform → EachOf (All IsValidClass) releases → tables ≡ row_of platform releases
    → mismatch_of_row platform releases ≡ None → AreVerdictsWithin (steps_of tables) MAX_FINDINGS None → StopsJudging platform releases (stops.TooMany parts.Findings)
row_refused platform row tables ps valid is fits many =
    let m : AreVerdictsWithin (steps_of (row_of platform row)) MAX_FINDINGS None = subst (λ (Ws : List World). AreVerdictsWithin (steps_of Ws) MAX_FINDINGS None) is many in
    let root : fault_of_root platform ≡ None = unmapped stops.BadRoot (fault_of_root platform) (first_none _ _ fits) in
    let v = step_verdict platform row m.0 (has_root platform (sym root)) ps.valid (λ r c. each_in (All IsValidClass) row r valid c) m.1 in
    inl (inr (refl, record { fits = fits; step = m.0; is_step = m.1; verdict = v.0; exact = v.1; many = m.2 v.0 v.1 }))

-- ---- numbered releases

pub listed_row : (releases : List Release) → All IsReleaseList releases → EachOf IsRecordList (map (λ (r : Release). r.records) releases)
listed_row releases h = each_mapped IsRecordList (λ (r : Release). r.records) releases (recursion_from_All IsReleaseList releases h)

pub valid_row : (releases : List Release) → All IsReleaseList releases → EachOf (All IsValidClass) (map (λ (r : Release). r.records) releases)
valid_row releases h = EachOf-map (λ (rs : List ClassFacts) (l : IsRecordList rs). l.valid) (map (λ (r : Release). r.records) releases) (listed_row releases h)

-- their sides
pub row_is : (platform : List ClassFacts) (releases : List Release) (tables : List World) → releases ≡ numbered 1 (map (λ (r : Release). r.records) releases) → tables ≡ sides_of platform releases
    → tables ≡ row_of platform (map (λ (r : Release). r.records) releases)
row_is platform releases tables numbers is = is ∙ ap (sides_of platform) numbers ∙ row_sides platform 1 (map (λ (r : Release). r.records) releases)

-- they go with the platform, or why they don't
pub row_fits : (platform : List ClassFacts) (releases : List Release) → releases ≡ numbered 1 (map (λ (r : Release). r.records) releases) → mismatch_among platform releases ≡ None
    → mismatch_of_row platform (map (λ (r : Release). r.records) releases) ≡ None
row_fits platform releases numbers fits = ap (mismatch_among platform) (sym numbers) ∙ fits

pub row_stopped : (platform : List ClassFacts) (releases : List Release) (stop : Stop) → releases ≡ numbered 1 (map (λ (r : Release). r.records) releases) → StopsOver platform releases stop
    → StopsJudging platform (map (λ (r : Release). r.records) releases) stop
row_stopped platform releases stop numbers (inl h) = inl (inl (ap (mismatch_among platform) (sym numbers) ∙ h))
row_stopped platform releases stop numbers (inr h) = inr h
