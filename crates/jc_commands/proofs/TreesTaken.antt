-- What is taken from the front of what a command's trees are read as.
use Rattle.std.proofs.Common.{◌≡◌, ◌∙◌, ◌≤◌, ◌<◌, ◌+◌, ℕ, suc, List, [], ◌∷◌, length, map, refl, sym, ap, subst, arith}
use Rattle.std.specs.List.{All, AllByRecursion}
use Rattle.std.proofs.lemmas.List.{length-map}
use Rattle.std.proofs.lemmas.List.Elements.{All-from_recursion, recursion_from_All}
use Rattle.jc_facts.specs.declared.class_facts.ClassFacts.{ClassFacts}
use Rattle.jc_facts.specs.Names.{Bytes}
use Rattle.jc_facts.specs.world.World.{Modules, OneModule, Several}
use Rattle.jc_lemmas.proofs.Listed.{EachOf}
use Rattle.jc_trees.specs.ClassLists.{IsReadList, IsRecordList, StartsAs, kind_of}
use Rattle.jc_trees.specs.Tree.{TreeOf}
use Rattle.jc_trees.specs.declared.tree.TreeKind.{TreeKind}
use Rattle.jc_trees.specs.declared.tree.TreeKind.TheVariants as kinds
use Rattle.jc_trees.specs.declared.tree_read.TreeRead.{TreeRead}
use Rattle.jc_trees.specs.declared.tree_read.TreeRead.TheVariants as reads
use Rattle.jc_trees.proofs.TakenReads.{first_of_kind, rest_of_kinds, none_left}
use Rattle.jc_releases.specs.Command.{release_trees, trees_of}
use Rattle.jc_words.specs.Command.{HistoryOf, HistoryCommand}
use Rattle.jc_releases.specs.Releases.{modules_in, read_as, read_of}
use Rattle.jc_releases.specs.declared.releases.Release.{Release}
use Rattle.jc_releases.specs.steps.Releases.{IsReleaseList}

-- ---- three trees, one after the other

module _ (all : List TreeRead) (wanted trees : List TreeOf) (kinds_are : map kind_of all ≡ map (λ (t : TreeOf). t.kind) wanted) (wanted_is : wanted ≡ trees) where
  pub all_kinds : map kind_of all ≡ map (λ (t : TreeOf). t.kind) trees
  all_kinds = kinds_are ∙ ap (map (λ (t : TreeOf). t.kind)) wanted_is

module _ (all : List TreeRead) (k l m : TreeKind) (kinds_are : map kind_of all ≡ k ∷ l ∷ m ∷ []) where
  pub first_taken : StartsAs k all
  first_taken = first_of_kind all k (l ∷ m ∷ []) kinds_are

  module _ (rest : List TreeRead) (x : TreeRead) (a : all ≡ x ∷ rest) where
    rest_kinds : map kind_of rest ≡ l ∷ m ∷ []
    rest_kinds = rest_of_kinds all rest x k (l ∷ m ∷ []) kinds_are a

    pub second_taken : StartsAs l rest
    second_taken = first_of_kind rest l (m ∷ []) rest_kinds

    module _ (more : List TreeRead) (y : TreeRead) (b : rest ≡ y ∷ more) where
      more_kinds : map kind_of more ≡ m ∷ []
      more_kinds = rest_of_kinds rest more y l (m ∷ []) rest_kinds b

      pub third_taken : StartsAs m more
      third_taken = first_of_kind more m [] more_kinds

      pub three_taken : (left : List TreeRead) (z : TreeRead) → more ≡ z ∷ left → all ≡ x ∷ y ∷ z ∷ []
      three_taken left z c =
          let none = none_left left (rest_of_kinds more left z m [] more_kinds c) in
          a ∙ ap (λ (rs : List TreeRead). x ∷ rs) (b ∙ ap (λ (rs : List TreeRead). y ∷ rs) (c ∙ ap (λ (rs : List TreeRead). z ∷ rs) none))

-- what is read of each is as it has to be
pub three_lists : (all : List TreeRead) (x y z : TreeRead) → all ≡ x ∷ y ∷ z ∷ [] → All IsReadList all → AllByRecursion IsReadList (x ∷ y ∷ z ∷ [])
three_lists all x y z is h = recursion_from_All IsReadList (x ∷ y ∷ z ∷ []) (subst (All IsReadList) is h)

-- the records of a release are
pub release_list : (r : Release) → IsReadList (read_of r) → IsReleaseList r
release_list r h = go (modules_in r.modules) h
  where
    go : (m : Modules) → IsReadList (read_as m r.records) → IsRecordList r.records
    go OneModule k = k
    go (Several exports) k = k

-- ---- a row of releases

release_kinds : (n : ℕ) (roots : List Bytes) (all : List TreeRead) → map kind_of all ≡ map (λ (t : TreeOf). t.kind) (release_trees n roots) → EachOf (λ read. kind_of read ≡ kinds.Library) all
release_kinds n [] [] h = tt
release_kinds n [] (r ∷ rest) h = absurd (cc)
release_kinds n (root ∷ roots) [] h = absurd (cc)
release_kinds n (root ∷ roots) (r ∷ rest) h =
    let first : kind_of r ≡ kinds.Library = cc in
    let others : map kind_of rest ≡ map (λ (t : TreeOf). t.kind) (release_trees (n + 1) roots) = cc in
    (first, release_kinds (n + 1) roots rest others)

release_count : (n : ℕ) (roots : List Bytes) (all : List TreeRead) → map kind_of all ≡ map (λ (t : TreeOf). t.kind) (release_trees n roots) → length all ≡ length roots
release_count n [] [] h = refl
release_count n [] (r ∷ rest) h = absurd (cc)
release_count n (root ∷ roots) [] h = absurd (cc)
release_count n (root ∷ roots) (r ∷ rest) h =
    let others : map kind_of rest ≡ map (λ (t : TreeOf). t.kind) (release_trees (n + 1) roots) = cc in
    ap suc (release_count (n + 1) roots rest others)

module _ (history : HistoryOf) (all : List TreeRead) (kinds_are : map kind_of all ≡ map (λ (t : TreeOf). t.kind) (trees_of (HistoryCommand history))) where
  pub platform_taken : StartsAs kinds.Library all
  platform_taken = first_of_kind all kinds.Library (map (λ (t : TreeOf). t.kind) (release_trees 1 history.releases)) kinds_are

  module _ (rest : List TreeRead) (x : TreeRead) (a : all ≡ x ∷ rest) where
    rest_are : map kind_of rest ≡ map (λ (t : TreeOf). t.kind) (release_trees 1 history.releases)
    rest_are = rest_of_kinds all rest x kinds.Library (map (λ (t : TreeOf). t.kind) (release_trees 1 history.releases)) kinds_are a

    pub releases_taken : All (λ read. kind_of read ≡ kinds.Library) rest
    releases_taken = All-from_recursion (λ read. kind_of read ≡ kinds.Library) rest (release_kinds 1 history.releases rest rest_are)

    pub count_taken : length rest ≡ length history.releases
    count_taken = release_count 1 history.releases rest rest_are

pub some_taken : {A B : Type 0} (xs : List A) (f : A → B) (ys : List B) (k : ℕ) → map f xs ≡ ys → length ys ≡ k → 2 ≤ k → 0 < length xs
some_taken xs f ys k is long h = let e : length (map f xs) ≡ length ys = ap length is in omega (arith, length-map xs f, e, long, h)

pub few_taken : (n k : ℕ) → n ≡ k → k ≤ 20 → n ≤ 20
few_taken n k e h = omega (arith, e, h)

release_each : (releases : List Release) → EachOf IsReadList (map (λ (r : Release). reads.Library r.records) releases) → EachOf IsReleaseList releases
release_each [] h = tt
release_each (r ∷ rs) h = (h.0, release_each rs h.1)

pub release_lists : (releases : List Release) (rest : List TreeRead) → map (λ (r : Release). reads.Library r.records) releases ≡ rest → All IsReadList rest → All IsReleaseList releases
release_lists releases rest is h =
    All-from_recursion IsReleaseList releases (release_each releases (recursion_from_All IsReadList (map (λ (r : Release). reads.Library r.records) releases) (subst (All IsReadList) (sym is) h)))

pub mapped_records : (releases : List Release) → map (λ (r : Release). reads.Library r.records) releases ≡ map reads.Library (map (λ (r : Release). r.records) releases)
mapped_records [] = refl
mapped_records (r ∷ rs) = ap (λ (xs : List TreeRead). reads.Library r.records ∷ xs) (mapped_records rs)

-- what was read is the platform's records and those of the releases
pub row_taken : (all rest : List TreeRead) (platform : List ClassFacts) (releases : List Release) → all ≡ reads.Library platform ∷ rest → map (λ (r : Release). reads.Library r.records) releases ≡ rest
    → all ≡ reads.Library platform ∷ map reads.Library (map (λ (r : Release). r.records) releases)
row_taken all rest platform releases a is = a ∙ ap (λ (xs : List TreeRead). reads.Library platform ∷ xs) (sym is ∙ mapped_records releases)
