-- The class files of a listing, in order.
use Rattle.std.proofs.Common.{◌≡◌, ◌≢◌, Bool, true, false, not, ◌&&◌, ◌||◌, List, [], ◌∷◌, Option, Some, None, refl, sym}
use Rattle.std.specs.List.{All, Contains, filter}
use Rattle.std.specs.List.Sorted.{IsPermutation, IsSorted}
use Rattle.std.specs.Ordering.{nat_cmp}
use Rattle.std.specs.Cmp.Lexicographic.{slice_cmp}
use Rattle.std.specs.Str.{bytes_eq}
use Rattle.std.proofs.lemmas.List.Elements.{All-filter, filter_passes, All-contains, All-contains_itself, All-weaker}
use Rattle.std.proofs.lemmas.List.Sorted.{All-permutation, Contains-permutation}
use Rattle.std.proofs.lemmas.Slice.Eq.{bytes_eq-Decides}
use Rattle.jc_base.specs.Outside.{FileOf, HasFile, AreThePaths, Lists, Holds, has_bytes, are_distinct}
use Rattle.jc_facts.specs.Names.{Bytes}
use Rattle.jc_facts.specs.Exactly.{by_names, NamesRise}
use Rattle.jc_facts.proofs.InOrder.{Rises-filter}
use Rattle.jc_facts.proofs.Apart.{ApartRec, rec-Apart, Apart-permutation, NamesRise-sorted}
use Rattle.jc_lemmas.proofs.Listed.{EachOf, filter_in}
use Rattle.jc_trees.specs.ClassFiles.{is_class_path, IsClassPathOf, AreClassPaths}
use Rattle.jc_trees.specs.Tree.{TreeOf}
use Rattle.jc_trees.specs.declared.tree.TreeKind.{TreeKind}

not_there : (x : Bytes) (ys : List Bytes) → has_bytes x ys ≡ false → EachOf (λ y. x ≢ y) ys
not_there x [] h = tt
not_there x (y ∷ ys) h = go (bytes_eq y x) refl h (not_there x ys)
  where
    go : (b : Bool) → bytes_eq y x ≡ b → (b || has_bytes x ys) ≡ false → (has_bytes x ys ≡ false → EachOf (λ z. x ≢ z) ys) → (x ≢ y) × EachOf (λ z. x ≢ z) ys
    go true q h more = absurd (cc)
    go false q h more = ((λ is. let same : bytes_eq y x ≡ true = (bytes_eq-Decides y x).1 (sym is) in cc), more h)

distinct_apart : (xs : List Bytes) → are_distinct xs ≡ true → ApartRec (λ p. p) xs
distinct_apart [] h = tt
distinct_apart (x ∷ xs) h = go (has_bytes x xs) refl h (distinct_apart xs)
  where
    go : (b : Bool) → has_bytes x xs ≡ b → (not b && are_distinct xs) ≡ true → (are_distinct xs ≡ true → ApartRec (λ p. p) xs) → EachOf (λ y. x ≢ y) xs × ApartRec (λ p. p) xs
    go true q h more = absurd (cc)
    go false q h more = (not_there x xs q, more h)

-- listed, sorted, and then those of class files
pub rising_listing : (kind : TreeKind) (listed sorted : List Bytes) → are_distinct listed ≡ true → IsPermutation listed sorted → IsSorted (slice_cmp nat_cmp) sorted
    → NamesRise (λ p. p) (filter (is_class_path kind) sorted)
rising_listing kind listed sorted once p s =
    Rises-filter (by_names (λ p. p)) (is_class_path kind) sorted (NamesRise-sorted (λ p. p) sorted s (Apart-permutation (λ p. p) listed sorted p (rec-Apart (λ p. p) listed (distinct_apart listed once))))

pub held_listing : (content : Option (List FileOf)) (root : Bytes) (kind : TreeKind) (listed sorted : List Bytes) → Lists content root listed → IsPermutation listed sorted
    → All (Holds content root) (filter (is_class_path kind) sorted)
held_listing content root kind listed sorted l p = All-filter (is_class_path kind) (Holds content root) sorted (All-permutation (Holds content root) listed sorted p (go content l))
  where
    go : (content : Option (List FileOf)) → Lists content root listed → All (Holds content root) listed
    go None l = All-weaker (Contains listed) (Holds None root) (λ path c. tt) listed (All-contains_itself listed)
    go (Some files) l = l.each

pub class_paths : (files : List FileOf) (tree : TreeOf) (listed sorted : List Bytes) → AreThePaths files tree.root listed → are_distinct listed ≡ true → IsPermutation listed sorted
    → IsSorted (slice_cmp nat_cmp) sorted → AreClassPaths files tree (filter (is_class_path tree.kind) sorted)
class_paths files tree listed sorted l once p s = record {
  in_order = rising_listing tree.kind listed sorted once p s;
  sound = All-weaker (Contains kept) (IsClassPathOf files tree) one kept (All-contains_itself kept);
  complete = λ path k. filter_in (is_class_path tree.kind) sorted path (Contains-permutation listed sorted path p (l.whole path k.held)) k.named;
}
  where
    kept : List Bytes
    kept = filter (is_class_path tree.kind) sorted

    one : (path : Bytes) → Contains kept path → IsClassPathOf files tree path
    one path c = record {
      held = All-contains (HasFile files tree.root) kept path (held_listing (Some files) tree.root tree.kind listed sorted l p) c;
      named = All-contains (λ q. is_class_path tree.kind q ≡ true) kept path (filter_passes (is_class_path tree.kind) sorted) c;
    }
