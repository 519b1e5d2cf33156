-- The sides of two releases, and of a row of them.
--     two_sides, two_tables, two_fit, two_stopped      the tables of two releases
--     grounds_fit, old_stops, new_stops      what their clients are judged over
--     two_of_run, two_paired      their sides are of one run, and a pair of which promises are made
--     row_sides      the sides of a row
use Rattle.std.proofs.Common.{◌≡◌, ◌<◌, ◌+◌, ◌⊎◌, inl, inr, ℕ, List, [], ◌∷◌, length, None, Some, refl, sym, ap, subst, ◌∙◌, arith}
use Rattle.std.specs.List.{All}
use Rattle.std.proofs.lemmas.List.Elements.{All-from_recursion}
use Rattle.jc_facts.specs.declared.class_facts.ClassFacts.{ClassFacts}
use Rattle.jc_facts.specs.Options.{or_else}
use Rattle.jc_promises.specs.Pairs.{AreOfOneRun, IsPair}
use Rattle.jc_facts.specs.world.World.{World, side}
use Rattle.jc_index.specs.Root.{fault_of_root}
use Rattle.jc_index.specs.Sides.{overlap_of}
use Rattle.jc_index.proofs.Roots.{has_root}
use Rattle.jc_trees.specs.ClassLists.{IsRecordList}
use Rattle.jc_trees.specs.declared.tree.TreeName.{TreeName}
use Rattle.jc_trees.specs.declared.tree.TreeName.TheVariants as names
use Rattle.jc_commands.specs.Check.{mismatch_of}
use Rattle.jc_releases.specs.Releases.{side_of, release_at, old_and_new, numbered, sides_of, mismatch_among}
use Rattle.jc_releases.specs.declared.releases.Release.{Release}
use Rattle.jc_commands.specs.History.{row_of}
use Rattle.jc_commands.specs.steps.Check.{StopsMatching}
use Rattle.jc_releases.specs.steps.Releases.{IsReleaseList, AreOldAndNew, StopsOver, StopsRelease, unfit_by}
use Rattle.jc_table.specs.Tables.{HasCause}
use Rattle.jc_table.specs.declared.table.TableError.{TableError}
use Rattle.jc_table.specs.declared.table.TableError.TheVariants as errors
use Rattle.jc_releases.specs.declared.stop.Stop.{Stop}
use Rattle.jc_releases.specs.declared.stop.Stop.TheVariants as stops
use Rattle.jc_commands.proofs.Records.{first_none, unmapped}

-- ---- two releases

pub two_tables : (platform : List ClassFacts) (old new : Release) (releases : List Release) (tables : List World) → releases ≡ old ∷ new ∷ [] → tables ≡ sides_of platform releases
    → tables ≡ side_of platform old ∷ side_of platform new ∷ []
two_tables platform old new releases tables are is = is ∙ ap (sides_of platform) are

pub two_lists : (old new : Release) (releases : List Release) → releases ≡ old ∷ new ∷ [] → AreOldAndNew old new → All IsReleaseList releases
two_lists old new releases are r = subst (All IsReleaseList) (sym are) (All-from_recursion IsReleaseList (old ∷ new ∷ []) (r.old_list, (r.new_list, tt)))

pub two_some : (old new : Release) (releases : List Release) → releases ≡ old ∷ new ∷ [] → 0 < length releases
two_some old new releases are = let e : length releases ≡ 2 = ap length are in omega (arith, e)

pub two_sides : (a b c d : World) → a ∷ b ∷ [] ≡ c ∷ d ∷ [] → (a ≡ c) × (b ≡ d)
two_sides a b c d e = let first : a ≡ c = cc in let second : b ≡ d = cc in (first, second)

-- why they don't go with the platform is why their sides don't
pub two_mismatched : (platform : List ClassFacts) (old new : Release) (releases : List Release) → releases ≡ old ∷ new ∷ [] → AreOldAndNew old new
    → mismatch_among platform releases ≡ mismatch_of (side_of platform old) (side_of platform new)
two_mismatched platform old new releases are r =
    ap (mismatch_among platform) are
    ∙ ap (λ (name : TreeName). mismatch_among platform (release_at name old.records ∷ new ∷ [])) r.old_name
    ∙ ap (λ (name : TreeName). mismatch_among platform (release_at names.Old old.records ∷ release_at name new.records ∷ [])) r.new_name

pub two_fit : (platform : List ClassFacts) (old new : Release) (releases : List Release) → releases ≡ old ∷ new ∷ [] → AreOldAndNew old new
    → mismatch_among platform releases ≡ None → mismatch_of (side_of platform old) (side_of platform new) ≡ None
two_fit platform old new releases are r fits = sym (two_mismatched platform old new releases are r) ∙ fits

pub two_stopped : (platform : List ClassFacts) (old new : Release) (releases : List Release) → releases ≡ old ∷ new ∷ [] → AreOldAndNew old new
    → (stop : Stop) → StopsOver platform releases stop → StopsMatching (side_of platform old) (side_of platform new) stop
two_stopped platform old new releases are r stop (inl h) = inl (sym (two_mismatched platform old new releases are r) ∙ h)
two_stopped platform old new releases are r stop (inr h) = inr h

-- one after the other
pub grounds_fit : (P : List ClassFacts) (old new : Release) → fault_of_root P ≡ None → overlap_of P old.records ≡ None → overlap_of P new.records ≡ None → mismatch_of (side_of P old) (side_of P new) ≡ None
unfolding or_else
grounds_fit P old new root o n = rw (root, o, n) refl

old_unfit : (P O N : List ClassFacts) (e : TableError) → HasCause P O e → (mismatch_among P (old_and_new O N) ≡ Some (unfit_by names.Old e)) ⊎ (unfit_by names.Old e ≡ stops.Memory)
unfolding or_else
old_unfit P O N (errors.BadRoot part) h = inl (rw h refl)
old_unfit P O N (errors.Overlap x) h = inl (rw (h.0, h.1) refl)
old_unfit P O N errors.Memory h = inr refl

new_unfit : (P O N : List ClassFacts) (e : TableError) → overlap_of P O ≡ None → HasCause P N e → (mismatch_among P (old_and_new O N) ≡ Some (unfit_by names.New e)) ⊎ (unfit_by names.New e ≡ stops.Memory)
unfolding or_else
new_unfit P O N (errors.BadRoot part) a h = inl (rw h refl)
new_unfit P O N (errors.Overlap x) a h = inl (rw (h.0, a, h.1) refl)
new_unfit P O N errors.Memory a h = inr refl

pub old_stops : (P : List ClassFacts) (old new : Release) → AreOldAndNew old new → (stop : Stop) → StopsRelease P old stop → StopsMatching (side_of P old) (side_of P new) stop
old_stops P old new r stop (inl h) =
    subst (λ (s : Stop). StopsMatching (side_of P old) (side_of P new) s) (sym (h.2 ∙ ap (λ (name : TreeName). unfit_by name h.0) r.old_name)) (old_unfit P old.records new.records h.0 h.1)
old_stops P old new r stop (inr h) = inr h

pub new_stops : (P : List ClassFacts) (old new : Release) → AreOldAndNew old new → overlap_of P old.records ≡ None → (stop : Stop) → StopsRelease P new stop
    → StopsMatching (side_of P old) (side_of P new) stop
new_stops P old new r apart stop (inl h) =
    subst (λ (s : Stop). StopsMatching (side_of P old) (side_of P new) s) (sym (h.2 ∙ ap (λ (name : TreeName). unfit_by name h.0) r.new_name)) (new_unfit P old.records new.records h.0 apart h.1)
new_stops P old new r apart stop (inr h) = inr h

-- their sides are of one run
pub two_of_run : (platform : List ClassFacts) (old new : Release) → AreOldAndNew old new → AreOfOneRun (side_of platform old) (side_of platform new)
two_of_run platform old new r = record { old_bare = refl; new_bare = refl; platform = refl; kind = r.kind }

-- and a pair, of which promises are made, where they go with the platform
pub two_paired : (platform : List ClassFacts) (old new : Release) → IsRecordList platform → AreOldAndNew old new → mismatch_of (side_of platform old) (side_of platform new) ≡ None
    → IsPair (side_of platform old) (side_of platform new)
two_paired platform old new p r fits = record {
  run = two_of_run platform old new r;
  root = has_root platform (sym (unmapped stops.BadRoot (fault_of_root platform) (first_none _ _ fits)));
  platform_valid = p.valid;
  old_valid = r.old_list.valid;
  new_valid = r.new_list.valid;
}

-- ---- a row of releases

pub row_sides : (platform : List ClassFacts) (n : ℕ) (rs : List (List ClassFacts)) → sides_of platform (numbered n rs) ≡ row_of platform rs
row_sides platform n [] = refl
row_sides platform n (r ∷ rs) = ap (λ (Ws : List World). side platform r ∷ Ws) (row_sides platform (n + 1) rs)
