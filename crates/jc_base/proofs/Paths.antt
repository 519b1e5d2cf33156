-- The paths of a root in a list of files.
use Rattle.std.proofs.Common.{◌≡◌, ℕ, List, [], ◌∷◌, Bool, true, false, ◌&&◌, refl, subst, arith, cond}
use Rattle.std.specs.Str.{bytes_eq}
use Rattle.std.proofs.lemmas.Slice.Eq.{bytes_eq-Decides}
use Rattle.std.specs.List.{AllByRecursion, Contains}
use Rattle.std.specs.Prelude.{Some, None, Option}
use Rattle.std.proofs.lemmas.List.Elements.{All-from_recursion}
use Rattle.jc_lemmas.proofs.Listed.{here, there}
use Rattle.jc_base.specs.Outside.{FileOf, file_at, HasFile, AreThePaths, has_bytes, has_file, are_files, are_distinct}
use Rattle.jc_base.specs.MemPaths.{paths_of}

-- a path that no file of the root has isn't among the paths
pub fresh : (root path : List ℕ) (fs : List FileOf) → has_file root path fs ≡ false → has_bytes path (paths_of root fs) ≡ false
fresh root path [] h = refl
fresh root path (f ∷ fs) h = grind (arith, fresh root path fs)

pub distinct_paths : (root : List ℕ) (fs : List FileOf) → are_files fs ≡ true → are_distinct (paths_of root fs) ≡ true
distinct_paths root [] h = refl
distinct_paths root (f ∷ fs) h = grind (arith, distinct_paths root fs, fresh root f.path fs, bytes_eq-Decides f.root root)

holds_more : (root : List ℕ) (f : FileOf) (fs : List FileOf) (path : List ℕ) → HasFile fs root path → HasFile (f ∷ fs) root path
holds_more root f fs path h = go (bytes_eq f.root root && bytes_eq f.path path) where
  go : (b : Bool) → (bytes : List ℕ) × (cond b (Some f.bytes) (file_at root path fs) ≡ Some bytes)
  go true = (f.bytes, refl)
  go false = h

all_more : (root : List ℕ) (f : FileOf) (fs : List FileOf) (paths : List (List ℕ)) → AllByRecursion (HasFile fs root) paths → AllByRecursion (HasFile (f ∷ fs) root) paths
all_more root f fs [] h = h
all_more root f fs (p ∷ ps) h = (holds_more root f fs p h.0, all_more root f fs ps h.1)

held_first : (root : List ℕ) (f : FileOf) (fs : List FileOf) → bytes_eq f.root root ≡ true → HasFile (f ∷ fs) root f.path
held_first root f fs h =
    let same : bytes_eq f.path f.path ≡ true = (bytes_eq-Decides f.path f.path).1 refl in
    (f.bytes, rw (h, same) refl)

held_step : (root : List ℕ) (f : FileOf) (fs : List FileOf) (b : Bool) → bytes_eq f.root root ≡ b → AllByRecursion (HasFile fs root) (paths_of root fs)
    → AllByRecursion (HasFile (f ∷ fs) root) (cond b (f.path ∷ paths_of root fs) (paths_of root fs))
held_step root f fs true h others = (held_first root f fs h, all_more root f fs (paths_of root fs) others)
held_step root f fs false h others = all_more root f fs (paths_of root fs) others

held_by_recursion : (root : List ℕ) (fs : List FileOf) → AllByRecursion (HasFile fs root) (paths_of root fs)
held_by_recursion root [] = tt
held_by_recursion root (f ∷ fs) = held_step root f fs (bytes_eq f.root root) refl (held_by_recursion root fs)

listed_step : (root path : List ℕ) (f : FileOf) (ps : List (List ℕ)) (rest : Option (List ℕ)) (b c : Bool) → bytes_eq f.path path ≡ c
    → (bytes : List ℕ) → cond (b && c) (Some f.bytes) rest ≡ Some bytes → (rest ≡ Some bytes → Contains ps path) → Contains (cond b (f.path ∷ ps) ps) path
listed_step root path f ps rest true true same bytes found more =
    let is : f.path ≡ path = (bytes_eq-Decides f.path path).0 same in
    subst (λ (p : List ℕ). Contains (f.path ∷ ps) p) is (here f.path ps)
listed_step root path f ps rest true false same bytes found more = there path f.path ps (more found)
listed_step root path f ps rest false c same bytes found more = more found

-- each file of the root has its path among them
listed : (root path : List ℕ) (fs : List FileOf) (bytes : List ℕ) → file_at root path fs ≡ Some bytes → Contains (paths_of root fs) path
listed root path [] bytes found = absurd (let clash : None ≡ Some bytes = found in cc)
listed root path (f ∷ fs) bytes found =
    listed_step root path f (paths_of root fs) (file_at root path fs) (bytes_eq f.root root) (bytes_eq f.path path) refl bytes found (listed root path fs bytes)

pub listed_paths : (root : List ℕ) (fs : List FileOf) → AreThePaths fs root (paths_of root fs)
listed_paths root fs = record {
  each = All-from_recursion _ _ (held_by_recursion root fs);
  whole = λ path h. listed root path fs h.0 h.1;
}
