-- Trees that were read one after another.
use Rattle.std.proofs.Common.{◌≡◌, ◌≤◌, ◌<◌, ◌+◌, inl, inr, ℕ, List, [], ◌∷◌, ◌++◌, Option, Some, length, map, take, drop, get_or, refl, sym, ap, subst, ◌∙◌}
use Rattle.std.proofs.lemmas.List.{take_more, drop_more, take-append-drop, map-append, map_push}
use Rattle.jc_base.specs.Outside.{FileOf}
use Rattle.jc_base.specs.States.{TreesState}
use Rattle.jc_facts.specs.Names.{Bytes}
use Rattle.jc_lemmas.proofs.Listed.{EachOf}
use Rattle.jc_trees.specs.declared.trees_error.TreesError.{TreesError}
use Rattle.jc_trees.specs.declared.trees_error.TreesError.TheVariants as trees_errors
use Rattle.jc_trees.specs.declared.tree.Tree.{Tree}
use Rattle.jc_trees.specs.declared.tree.TreeKind.{TreeKind}
use Rattle.jc_trees.specs.declared.tree.TreeName.{TreeName}
use Rattle.jc_trees.specs.declared.tree_read.TreeRead.{TreeRead}
use Rattle.jc_trees.specs.FirstTree.{IsFirst}
use Rattle.jc_trees.specs.ClassFiles.{Told, IsClean}
use Rattle.jc_trees.specs.ClassLists.{kind_of}
use Rattle.jc_trees.specs.Tree.{TreeOf}
use Rattle.jc_trees.specs.TreeView.{tree_of}
use Rattle.jc_trees.specs.steps.ReadTree.{StopsIn}
use Rattle.jc_trees.specs.ReadTrees.{Gives, GiveAll, StopsAmong}
use Rattle.jc_trees.proofs.OneRead.{clean_given}
use Rattle.jc_trees.proofs.TreeRead.{rose_since}

-- one more tree was read
read_more : (files : List FileOf) (trees : List TreeOf) (all : List TreeRead) (tree : TreeOf) (read : TreeRead) → GiveAll files trees all → Gives files tree read
    → GiveAll files (trees ++ tree ∷ []) (all ++ read ∷ [])
read_more files [] [] tree read r h = (h, tt)
read_more files (t ∷ ts) (k ∷ ks) tree read r h = (r.0, read_more files ts ks tree read r.1 h)
read_more files [] (k ∷ ks) tree read r h = absurd r
read_more files (t ∷ ts) [] tree read r h = absurd r

-- trees that are read, where they are told
told_clean : (content : Option (List FileOf)) (trees : List TreeOf) (all : List TreeRead) → Told content (λ files. GiveAll files trees all)
    → EachOf (λ tree. Told content (λ files. IsClean files tree)) trees
told_clean content [] all r = tt
told_clean content (t ∷ ts) (k ∷ ks) r = ((λ files told. clean_given files t k (r files told).0), told_clean content ts ks (λ files told. (r files told).1))
told_clean content (t ∷ ts) [] r = ((λ files told. absurd (r files told)), told_clean content ts [] (λ files told. absurd (r files told)))

now_clean : (content : Option (List FileOf)) (trees : List TreeOf) (files : List FileOf) → content ≡ Some files → EachOf (λ tree. Told content (λ files. IsClean files tree)) trees
    → EachOf (λ tree. IsClean files tree) trees
now_clean content [] files told h = tt
now_clean content (t ∷ ts) files told h = (h.0 files told, now_clean content ts files told h.1)

-- where the trees before one are as they should be, it is the first that is so
first_in : (Before This : TreeOf → Type 0) (front back : List TreeOf) (tree : TreeOf) → EachOf Before front → This tree → IsFirst Before This (front ++ tree ∷ back) tree.name
first_in Before This [] back tree b t = inl (refl, t)
first_in Before This (x ∷ front) back tree b t = inr (b.0, first_in Before This front back tree b.1 t)

-- one of the trees that are wanted, by its place
module _ (wanted : List Tree) (i : ℕ) (none : Tree) (lt : i < length wanted) where
  abbrev tree : Tree
  tree = get_or wanted i none

  next_taken : map tree_of (take (i + 1) wanted) ≡ map tree_of (take i wanted) ++ tree_of tree ∷ []
  next_taken = ap (map tree_of) (take_more wanted i none lt) ∙ map_push tree_of (take i wanted) tree

  pub one_more : (files : List FileOf) (all : List TreeRead) (read : TreeRead) → GiveAll files (map tree_of (take i wanted)) all → Gives files (tree_of tree) read
      → GiveAll files (map tree_of (take (i + 1) wanted)) (all ++ read ∷ [])
  one_more files all read r h = subst (λ (ts : List TreeOf). GiveAll files ts (all ++ read ∷ [])) (sym next_taken) (read_more files (map tree_of (take i wanted)) all (tree_of tree) read r h)

  -- of one more kind
  pub kinds_more : (all : List TreeRead) (read : TreeRead) → map kind_of all ≡ map (λ (t : TreeOf). t.kind) (map tree_of (take i wanted)) → kind_of read ≡ tree.kind
      → map kind_of (all ++ read ∷ []) ≡ map (λ (t : TreeOf). t.kind) (map tree_of (take (i + 1) wanted))
  kinds_more all read h k =
      map_push kind_of all read ∙ ap (λ (ks : List TreeKind). ks ++ kind_of read ∷ []) h ∙ ap (λ (x : TreeKind). map (λ (t : TreeOf). t.kind) (map tree_of (take i wanted)) ++ x ∷ []) k
      ∙ sym (ap (map (λ (t : TreeOf). t.kind)) next_taken ∙ map_push (λ (t : TreeOf). t.kind) (map tree_of (take i wanted)) (tree_of tree))

  whole : map tree_of wanted ≡ map tree_of (take i wanted) ++ tree_of tree ∷ map tree_of (drop (i + 1) wanted)
  whole =
      ap (map tree_of) (sym (take-append-drop i wanted) ∙ ap (λ (x : List Tree). take i wanted ++ x) (drop_more wanted i none lt))
      ∙ map-append tree_of (take i wanted) (tree ∷ drop (i + 1) wanted)

  first_at : (Before This : TreeOf → Type 0) (name : TreeName) → EachOf Before (map tree_of (take i wanted)) → name ≡ tree.name → This (tree_of tree) → IsFirst Before This (map tree_of wanted) name
  first_at Before This name b called t =
      subst (λ (ts : List TreeOf). IsFirst Before This ts name) (sym whole)
      (subst (λ (n : TreeName). IsFirst Before This (map tree_of (take i wanted) ++ tree_of tree ∷ map tree_of (drop (i + 1) wanted)) n) (sym called)
      (first_in Before This (map tree_of (take i wanted)) (map tree_of (drop (i + 1) wanted)) (tree_of tree) b t))

  -- why reading stopped at one of the trees, behind those that were read
  pub stops_among : (a b c : TreesState) (all : List TreeRead) → Told a.content (λ files. GiveAll files (map tree_of (take i wanted)) all) → b.content ≡ a.content
      → ((r : Bytes) → a.faults r ≤ b.faults r) → (error : TreesError) → StopsIn (record { before = b; after = c }) (tree_of tree) error
      → StopsAmong (record { before = a; after = c }) (map tree_of wanted) error
  stops_among a b c all read same le (trees_errors.Unread name fault) s = λ files told.
      first_at (IsClean files) _ name (now_clean a.content (map tree_of (take i wanted)) files told (told_clean a.content (map tree_of (take i wanted)) all read)) s.0 (s.1 files (same ∙ told))
  stops_among a b c all read same le (trees_errors.Fault name) s =
      first_at (λ t. Told a.content (λ files. IsClean files t)) _ name (told_clean a.content (map tree_of (take i wanted)) all read) s.0
      (rose_since (a.faults tree.root.now) (b.faults tree.root.now) (c.faults tree.root.now) (le tree.root.now) s.1)
  stops_among a b c all read same le trees_errors.Memory s = tt
