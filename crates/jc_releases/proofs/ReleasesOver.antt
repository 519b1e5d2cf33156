-- The tables of a list of releases.
--     over_first, over_next, over_all, over_fits      the loop over the releases
--     over_stopped      why it is left
--     numbered_first, numbered_next, numbered_end      the loop that numbers releases
use Rattle.std.proofs.Common.{◌≡◌, ◌<◌, ◌≤◌, ◌+◌, ◌⊎◌, inl, inr, ℕ, suc, List, [], ◌∷◌, ◌++◌, map, length, None, Some, refl, sym, ap, subst, ◌∙◌, append_assoc, arith}
use Rattle.std.proofs.lemmas.List.{length-map, length-append, map_push}
use Rattle.std.specs.List.{All}
use Rattle.std.proofs.lemmas.List.Elements.{recursion_from_All}
use Rattle.jc_facts.specs.declared.class_facts.ClassFacts.{ClassFacts}
use Rattle.jc_facts.specs.Options.{or_else}
use Rattle.jc_facts.specs.world.World.{World}
use Rattle.jc_lemmas.proofs.Listed.{EachOf}
use Rattle.jc_table.specs.declared.table.TableError.{TableError}
use Rattle.jc_table.specs.declared.table.TableError.TheVariants as errors
use Rattle.jc_table.specs.Tables.{HasCause as HasTableCause}
use Rattle.jc_index.specs.Root.{fault_of_root}
use Rattle.jc_index.specs.Sides.{overlap_of}
use Rattle.jc_trees.specs.ClassLists.{kind_of}
use Rattle.jc_trees.specs.declared.tree.TreeKind.TheVariants as kinds
use Rattle.jc_trees.specs.declared.tree.TreeName.TheVariants as names
use Rattle.jc_trees.specs.declared.tree_read.TreeRead.{TreeRead}
use Rattle.jc_trees.specs.declared.tree_read.TreeRead.TheVariants as reads
use Rattle.jc_releases.specs.Releases.{side_of, release_at, numbered, sides_of, first_overlap, mismatch_among}
use Rattle.jc_releases.specs.declared.releases.Release.{Release}
use Rattle.jc_releases.specs.steps.Releases.{IsReleaseList, StopsRelease, StopsOver, unfit_by}
use Rattle.jc_releases.specs.declared.stop.Stop.{Stop}
use Rattle.jc_releases.specs.declared.stop.Stop.TheVariants as stops

-- ---- the loop over the releases

-- the tables of those before the rest are made, and none of these is refused
pub record IsOver (platform : List ClassFacts) (all rest : List Release) (tables : List World) : Type 0 where
  pub built : tables ++ sides_of platform rest ≡ sides_of platform all
  pub overlaps : first_overlap platform rest ≡ first_overlap platform all
  pub lists : EachOf IsReleaseList rest
  pub root : (rest ≡ all) ⊎ (fault_of_root platform ≡ None)

over_none : (platform : List ClassFacts) (all : List Release) → All IsReleaseList all → IsOver platform all all []
over_none platform all h = record { built = refl; overlaps = refl; lists = recursion_from_All IsReleaseList all h; root = inl refl }

pub over_first : (platform : List ClassFacts) (all rest : List Release) (tables : List World) → rest ≡ all → tables ≡ [] → All IsReleaseList all → IsOver platform all rest tables
over_first platform all rest tables whole none h =
    subst (λ (xs : List Release). IsOver platform all xs tables) (sym whole) (subst (λ (Ws : List World). IsOver platform all all Ws) (sym none) (over_none platform all h))

-- a release that isn't refused is passed over
passed : (platform : List ClassFacts) (r : Release) (rs : List Release) → overlap_of platform r.records ≡ None → first_overlap platform (r ∷ rs) ≡ first_overlap platform rs
unfolding or_else
passed platform r rs e = rw e refl

pub over_next : (platform : List ClassFacts) (all rest : List Release) (r : Release) (tables : List World) (table : World) → IsOver platform all (r ∷ rest) tables
    → table ≡ side_of platform r → fault_of_root platform ≡ None → overlap_of platform r.records ≡ None → IsOver platform all rest (tables ++ table ∷ [])
over_next platform all rest r tables table way is root apart = record {
  built =
      ap (λ (W : World). (tables ++ W ∷ []) ++ sides_of platform rest) is
      ∙ append_assoc tables (side_of platform r ∷ []) (sides_of platform rest) ∙ way.built;
  overlaps = sym (passed platform r rest apart) ∙ way.overlaps;
  lists = way.lists.1;
  root = inr root;
}

mismatch_none : (platform : List ClassFacts) (releases : List Release) → fault_of_root platform ≡ None → first_overlap platform releases ≡ None → mismatch_among platform releases ≡ None
unfolding or_else
mismatch_none platform releases root apart = rw (root, apart) refl

pub over_fits : (platform : List ClassFacts) (all : List Release) (tables : List World) → 0 < length all → IsOver platform all [] tables → mismatch_among platform all ≡ None
over_fits platform all tables some way = mismatch_none platform all (root way.root) (sym way.overlaps)
  where
    root : ([] ≡ all) ⊎ (fault_of_root platform ≡ None) → fault_of_root platform ≡ None
    root (inl none) = let e : 0 ≡ length all = ap length none in absurd (omega (arith, e, some))
    root (inr r) = r

pub nothing_left : {A : Type 0} (xs : List A) (n : ℕ) → n ≡ length xs → n ≡ 0 → xs ≡ []
nothing_left [] n long none = refl
nothing_left (x ∷ xs) n long none = absurd (omega (arith, long, none))

-- ---- why it is left

overlap_here : (platform : List ClassFacts) (r : Release) (rs : List Release) (name : _) → overlap_of platform r.records ≡ Some name → first_overlap platform (r ∷ rs) ≡ Some (stops.Overlap r.name name)
unfolding or_else
overlap_here platform r rs name e = rw e refl

mismatch_root : (platform : List ClassFacts) (releases : List Release) (part : _) → fault_of_root platform ≡ Some part → mismatch_among platform releases ≡ Some (stops.BadRoot part)
unfolding or_else
mismatch_root platform releases part e = rw e refl

mismatch_overlap : (platform : List ClassFacts) (releases : List Release) (stop : Stop) → fault_of_root platform ≡ None → first_overlap platform releases ≡ Some stop → mismatch_among platform releases ≡ Some stop
unfolding or_else
mismatch_overlap platform releases stop root e = rw (root, e) refl

pub over_stopped : (platform : List ClassFacts) (all rest : List Release) (r : Release) (tables : List World) (stop : Stop) → IsOver platform all (r ∷ rest) tables
    → StopsRelease platform r stop → StopsOver platform all stop
over_stopped platform all rest r tables stop way (inr memory) = inr memory
over_stopped platform all rest r tables stop way (inl (error, cause, is)) = subst (StopsOver platform all) (sym is) (by_error error cause)
  where
    by_error : (error : TableError) → HasTableCause platform r.records error → StopsOver platform all (unfit_by r.name error)
    by_error (errors.BadRoot part) h = inl (mismatch_root platform all part h)
    by_error (errors.Overlap name) h =
        inl (mismatch_overlap platform all (stops.Overlap r.name name) h.0 (sym way.overlaps ∙ overlap_here platform r rest name h.1))
    by_error errors.Memory h = inr refl

pub few_both : (a b : ℕ) → a ≤ 40000 → b ≤ 40000 → a + b ≤ 120000
few_both a b h k = omega (arith, h, k)

-- ---- a row of releases

numbered_after : (n : ℕ) (rs : List (List ClassFacts)) (r : List ClassFacts) → numbered n (rs ++ r ∷ []) ≡ numbered n rs ++ release_at (names.NthRelease (n + length rs)) r ∷ []
numbered_after n [] r = let e : n ≡ n + 0 = omega arith in ap (λ (k : ℕ). release_at (names.NthRelease k) r ∷ []) e
numbered_after n (s ∷ rs) r =
    let e : n + 1 + length rs ≡ n + suc (length rs) = omega arith in
    ap (λ (xs : List Release). release_at (names.NthRelease n) s ∷ xs) (numbered_after (n + 1) rs r)
    ∙ ap (λ (k : ℕ). release_at (names.NthRelease n) s ∷ numbered (n + 1) rs ++ release_at (names.NthRelease k) r ∷ []) e

-- those before the rest are numbered, and each of the rest is a library
pub record IsNumbered (all rest : List TreeRead) (number : ℕ) (releases : List Release) : Type 0 where
  pub read : map (λ (r : Release). reads.Library r.records) releases ++ rest ≡ all
  pub numbers : releases ≡ numbered 1 (map (λ (r : Release). r.records) releases)
  pub counted : number ≡ 1 + length releases
  pub libraries : EachOf (λ read. kind_of read ≡ kinds.Library) rest

pub numbered_next : (all rest : List TreeRead) (read : TreeRead) (number : ℕ) (releases : List Release) (records : List ClassFacts) → IsNumbered all (read ∷ rest) number releases → read ≡ reads.Library records
    → IsNumbered all rest (number + 1) (releases ++ release_at (names.NthRelease number) records ∷ [])
numbered_next all rest read number releases records way is = record {
  read =
      ap (λ (xs : List TreeRead). xs ++ rest) (map_push (λ (r : Release). reads.Library r.records) releases one)
      ∙ append_assoc (map (λ (r : Release). reads.Library r.records) releases) (reads.Library records ∷ []) rest
      ∙ ap (λ (x : TreeRead). map (λ (r : Release). reads.Library r.records) releases ++ x ∷ rest) (sym is) ∙ way.read;
  numbers = sym (
      ap (numbered 1) (map_push (λ (r : Release). r.records) releases one) ∙ numbered_after 1 (map (λ (r : Release). r.records) releases) records
      ∙ ap (λ (k : ℕ). numbered 1 (map (λ (r : Release). r.records) releases) ++ release_at (names.NthRelease k) records ∷ []) count
      ∙ ap (λ (xs : List Release). xs ++ one ∷ []) (sym way.numbers));
  counted = let c = way.counted in omega (arith, c, length-append releases (one ∷ []));
  libraries = way.libraries.1;
}
  where
    one : Release
    one = release_at (names.NthRelease number) records

    count : 1 + length (map (λ (r : Release). r.records) releases) ≡ number
    count = let c = way.counted in omega (arith, c, length-map releases (λ (r : Release). r.records))
