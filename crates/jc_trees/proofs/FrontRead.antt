-- A file whose front was read.
use Rattle.std.proofs.Common.{◌≡◌, ◌≤◌, ◌<◌, ◌+◌, ℕ, List, [], ◌∷◌, ◌++◌, Some, length, take, drop, sym, ap, subst, ◌∙◌, arith, length-take, get_or}
use Rattle.std.proofs.lemmas.List.{take_all, take_more, drop_more, take-append-drop}
use Rattle.jc_base.specs.Outside.{FileOf, ReadsFront}
use Rattle.jc_facts.specs.Names.{Bytes}
use Rattle.jc_trees.specs.declared.file_fault.FileFault.{FileFault}
use Rattle.jc_trees.specs.declared.file_fault.FileFault.TheVariants as faults
use Rattle.jc_desc.specs.declared.limits.TheConstants.{MAX_CLASS_BYTES}
use Rattle.jc_trees.specs.ClassFiles.{FileRead, ClassRead, ModuleRead, IsReadIn, IsFileFault}
use Rattle.jc_trees.specs.Tree.{TreeOf}
use Rattle.jc_trees.specs.declared.tree.TreeKind.{TreeKind}
use Rattle.jc_trees.specs.steps.ReadTree.{IsReadAt, IsFaultAt, AreReadAt, IsFirstOf}

-- a front that isn't full is the whole
whole_front : (n : ℕ) (bytes front : Bytes) → front ≡ take (n + 1) bytes → length front ≤ n → front ≡ bytes
whole_front n bytes front is short =
    let long : length front ≡ length (take (n + 1) bytes) = ap length is in
    is ∙ take_all (n + 1) bytes (omega (arith, length-take (n + 1) bytes))

-- what is read isn't too long
short_enough : (kind : TreeKind) (path bytes : Bytes) (read : FileRead) → IsReadIn kind path bytes read → length bytes ≤ MAX_CLASS_BYTES
short_enough kind path bytes (ClassRead c) h = h.facts.short
short_enough kind path bytes (ModuleRead packages) h = h.short

pub read_told : (files : List FileOf) (tree : TreeOf) (path front : Bytes) (read : FileRead) (kind : TreeKind) → kind ≡ tree.kind → ReadsFront (Some files) tree.root path (MAX_CLASS_BYTES + 1) front
    → IsReadIn kind path front read → IsReadAt files tree path read
read_told files tree path front read kind same r h =
    let is : front ≡ r.0 = whole_front MAX_CLASS_BYTES r.0 front r.2 (short_enough kind path front read h) in
    record { bytes = r.0; is_file = r.1; is_read = subst (λ (k : TreeKind). IsReadIn k path r.0 read) same (subst (λ (b : Bytes). IsReadIn kind path b read) is h) }

-- a fault of a front that isn't full is one of the whole, and a full one is too long
fault_whole : (kind : TreeKind) (path bytes front : Bytes) → front ≡ take (MAX_CLASS_BYTES + 1) bytes → (fault : FileFault) → IsFileFault kind path front fault → IsFileFault kind path bytes fault
fault_whole kind path bytes front is faults.TooLong f =
    let long : length front ≡ length (take (MAX_CLASS_BYTES + 1) bytes) = ap length is in
    omega (arith, length-take (MAX_CLASS_BYTES + 1) bytes)
fault_whole kind path bytes front is (faults.Malformed m) f = subst (λ (b : Bytes). IsFileFault kind path b (faults.Malformed m)) (whole_front MAX_CLASS_BYTES bytes front is f.0) f
fault_whole kind path bytes front is (faults.Misplaced name) f = subst (λ (b : Bytes). IsFileFault kind path b (faults.Misplaced name)) (whole_front MAX_CLASS_BYTES bytes front is f.1) f
fault_whole kind path bytes front is (faults.BadCode offset reason) f =
    subst (λ (b : Bytes). IsFileFault kind path b (faults.BadCode offset reason)) (whole_front MAX_CLASS_BYTES bytes front is f.1.1.short) f

pub fault_told : (files : List FileOf) (tree : TreeOf) (path front : Bytes) (fault : FileFault) (kind : TreeKind) → kind ≡ tree.kind → ReadsFront (Some files) tree.root path (MAX_CLASS_BYTES + 1) front
    → IsFileFault kind path front fault → IsFaultAt files tree path fault
fault_told files tree path front fault kind same r f =
    record { bytes = r.0; is_file = r.1; is_fault = subst (λ (k : TreeKind). IsFileFault k path r.0 fault) same (fault_whole kind path r.0 front r.2 fault f) }

-- one more file was read
pub read_more : (files : List FileOf) (tree : TreeOf) (paths : List Bytes) (all : List FileRead) (path : Bytes) (read : FileRead) → AreReadAt files tree paths all → IsReadAt files tree path read
    → AreReadAt files tree (paths ++ path ∷ []) (all ++ read ∷ [])
read_more files tree [] [] path c r h = (h, tt)
read_more files tree (p ∷ ps) (k ∷ ks) path c r h = (r.0, read_more files tree ps ks path c r.1 h)
read_more files tree [] (k ∷ ks) path c r h = absurd r
read_more files tree (p ∷ ps) [] path c r h = absurd r

pub next_taken : (paths : List Bytes) (i : ℕ) (path : Bytes) → i < length paths → path ≡ get_or paths i path → take (i + 1) paths ≡ take i paths ++ path ∷ []
next_taken paths i path lt is = take_more paths i path lt ∙ ap (λ (p : Bytes). take i paths ++ p ∷ []) (sym is)

-- the paths before and behind one
pub first_of : (files : List FileOf) (tree : TreeOf) (paths : List Bytes) (i : ℕ) (path : Bytes) (all : List FileRead) (fault : FileFault) → i < length paths → path ≡ get_or paths i path
    → AreReadAt files tree (take i paths) all → IsFaultAt files tree path fault → IsFirstOf files tree paths path fault
first_of files tree paths i path all fault lt is read fault_is = record {
  front = take i paths;
  back = drop (i + 1) paths;
  all = all;
  whole = sym (take-append-drop i paths) ∙ ap (λ (x : List Bytes). take i paths ++ x) (drop_more paths i path lt ∙ ap (λ (p : Bytes). p ∷ drop (i + 1) paths) (sym is));
  read = read;
  fault_is = fault_is;
}
