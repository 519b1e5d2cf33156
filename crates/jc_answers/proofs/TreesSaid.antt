-- Trees of whose clients something was said, one after another.
use Rattle.std.proofs.Common.{◌≡◌, ◌≤◌, ◌<◌, ◌+◌, inl, inr, ℕ, List, [], ◌∷◌, ◌++◌, length, map, take, drop, get_or, refl, sym, ap, subst, ◌∙◌}
use Rattle.std.proofs.lemmas.List.{take_more, drop_more, take-append-drop, map-append, map_push}
use Rattle.jc_base.specs.Outside.{FileOf}
use Rattle.std.specs.List.{AllZip}
use Rattle.std.specs.Prelude.{Result, IfOk, IfErr}
use Rattle.jc_base.specs.States.{TreesState, Change}
use Rattle.jc_facts.specs.Names.{Bytes}
use Rattle.jc_answers.specs.Said.{HasFailedCall}
use Rattle.jc_answers.specs.steps.Trees.{FailsIn, FailsAmong, error_said}
use Rattle.jc_answers.specs.declared.answer.Answer.TheVariants as answers
use Rattle.jc_answers.specs.declared.judged.Said.{Said}
use Rattle.jc_releases.specs.declared.stop.Stop.TheVariants as stops
use Rattle.jc_trees.specs.ClassFiles.{Told, IsTreeFault}
use Rattle.jc_trees.specs.steps.ReadTree.{StopsIn}
use Rattle.jc_trees.specs.FirstTree.{IsFirst}
use Rattle.jc_trees.specs.Tree.{TreeOf}
use Rattle.jc_trees.specs.TreeView.{tree_of}
use Rattle.jc_trees.specs.declared.tree.Tree.{Tree}
use Rattle.jc_trees.specs.declared.file_fault.TreeFault.{TreeFault}
use Rattle.jc_trees.specs.declared.tree.TreeName.{TreeName}
use Rattle.jc_trees.specs.declared.tree.TreeName.TheVariants as names
use Rattle.jc_trees.specs.declared.trees_error.TreesError.{TreesError}
use Rattle.jc_trees.specs.declared.trees_error.TreesError.TheVariants as trees_errors
use Rattle.jc_trees.proofs.TreeRead.{rose_since}

-- a call that failed since some state failed since an earlier one
pub failed_since : (a b c : TreesState) → ((r : Bytes) → a.faults r ≤ b.faults r) → (trees : List TreeOf) (name : TreeName) → HasFailedCall (record { before = b; after = c }) trees name
    → HasFailedCall (record { before = a; after = c }) trees name
failed_since a b c le [] name h = h
failed_since a b c le (t ∷ trees) name (inl h) = inl (h.0, rose_since (a.faults t.root) (b.faults t.root) (c.faults t.root) (le t.root) h.1)
failed_since a b c le (t ∷ trees) name (inr h) = inr (tt, failed_since a b c le trees name h.1)

zip_more : {B : Type 0} (R : TreeOf → B → Type 0) (trees : List TreeOf) (all : List B) (tree : TreeOf) (x : B) → AllZip R trees all → R tree x → AllZip R (trees ++ tree ∷ []) (all ++ x ∷ [])
zip_more R [] [] tree x r h = (h, tt)
zip_more R (t ∷ ts) (y ∷ ys) tree x r h = (r.0, zip_more R ts ys tree x r.1 h)
zip_more R [] (y ∷ ys) tree x r h = absurd r
zip_more R (t ∷ ts) [] tree x r h = absurd r

first_in : (This : TreeOf → Type 0) (front back : List TreeOf) (tree : TreeOf) → This tree → IsFirst (λ t. Unit {0}) This (front ++ tree ∷ back) tree.name
first_in This [] back tree t = inl (refl, t)
first_in This (x ∷ front) back tree t = inr (tt, first_in This front back tree t)

-- one of the trees that are wanted, by its place
module _ (wanted : List Tree) (i : ℕ) (none : Tree) (lt : i < length wanted) where
  abbrev tree : Tree
  tree = get_or wanted i none

  next_taken : map tree_of (take (i + 1) wanted) ≡ map tree_of (take i wanted) ++ tree_of tree ∷ []
  next_taken = ap (map tree_of) (take_more wanted i none lt) ∙ map_push tree_of (take i wanted) tree

  pub one_more : {B : Type 0} (R : TreeOf → B → Type 0) (all : List B) (x : B) → AllZip R (map tree_of (take i wanted)) all → R (tree_of tree) x → AllZip R (map tree_of (take (i + 1) wanted)) (all ++ x ∷ [])
  one_more {B} R all x r h = subst (λ (ts : List TreeOf). AllZip R ts (all ++ x ∷ [])) (sym next_taken) (zip_more R (map tree_of (take i wanted)) all (tree_of tree) x r h)

  whole : map tree_of wanted ≡ map tree_of (take i wanted) ++ tree_of tree ∷ map tree_of (drop (i + 1) wanted)
  whole =
      ap (map tree_of) (sym (take-append-drop i wanted) ∙ ap (λ (x : List Tree). take i wanted ++ x) (drop_more wanted i none lt))
      ∙ map-append tree_of (take i wanted) (tree ∷ drop (i + 1) wanted)

  -- why judging stopped at one of the trees
  pub fails_among : (a b c : TreesState) → ((r : Bytes) → a.faults r ≤ b.faults r) → (error : TreesError) → FailsIn (record { before = b; after = c }) (tree_of tree) error
      → FailsAmong (record { before = a; after = c }) (map tree_of wanted) error
  fails_among a b c le (trees_errors.Unread name fault) s = s
  fails_among a b c le (trees_errors.Fault name) s =
      subst (λ (ts : List TreeOf). HasFailedCall (record { before = a; after = c }) ts name) (sym whole)
      (subst (λ (n : TreeName). HasFailedCall (record { before = a; after = c }) (map tree_of (take i wanted) ++ tree_of tree ∷ map tree_of (drop (i + 1) wanted)) n) (sym s.0)
      (first_in _ (map tree_of (take i wanted)) (map tree_of (drop (i + 1) wanted)) (tree_of tree)
      (rose_since (a.faults tree.root.now) (b.faults tree.root.now) (c.faults tree.root.now) (le tree.root.now) s.1)))
  fails_among a b c le trees_errors.Memory s = tt

-- a tree that isn't read

abbrev pub said_unread : TreeFault → Said
said_unread fault = record { answer = answers.Refused (stops.Unread names.Client fault); explained = [] }

pub error_is_told : (P : List FileOf → Said → Type 0) (c : Change TreesState) (tree : TreeOf) (error : TreesError) (r : Result Said TreesError) → r ≡ error_said error → StopsIn c tree error
    → ((files : List FileOf) (fault : TreeFault) → IsTreeFault files tree fault → P files (said_unread fault)) → IfOk r (λ s. Told c.before.content (λ files. P files s))
error_is_told P c tree (trees_errors.Unread name fault) r e s h = subst (λ (z : Result Said TreesError). IfOk z (λ a. Told c.before.content (λ files. P files a))) (sym e) (λ files told. h files fault (s.1 files told))
error_is_told P c tree (trees_errors.Fault name) r e s h = subst (λ (z : Result Said TreesError). IfOk z (λ a. Told c.before.content (λ files. P files a))) (sym e) tt
error_is_told P c tree trees_errors.Memory r e s h = subst (λ (z : Result Said TreesError). IfOk z (λ a. Told c.before.content (λ files. P files a))) (sym e) tt

pub error_fails : (c : Change TreesState) (tree : TreeOf) (error : TreesError) (r : Result Said TreesError) → r ≡ error_said error → StopsIn c tree error → IfErr r (FailsIn c tree)
error_fails c tree (trees_errors.Unread name fault) r e s = subst (λ (z : Result Said TreesError). IfErr z (FailsIn c tree)) (sym e) tt
error_fails c tree (trees_errors.Fault name) r e s = subst (λ (z : Result Said TreesError). IfErr z (FailsIn c tree)) (sym e) s
error_fails c tree trees_errors.Memory r e s = subst (λ (z : Result Said TreesError). IfErr z (FailsIn c tree)) (sym e) tt
