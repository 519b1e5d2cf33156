-- A tree that was read file by file.
use Rattle.jc_base.specs.Causes.{Rose}
use Rattle.std.proofs.Common.{◌≡◌, ◌≤◌, ◌⊎◌, inl, inr, arith, ℕ, List, [], ◌∷◌, ◌++◌, Option, Some, None, refl, sym, ap, subst, ◌∙◌}
use Rattle.std.specs.Prelude.{map, nat_lt, length, Bool, true, false, cond, is_none, ◌||◌, ◌&&◌}
use Rattle.std.specs.List.{All, Contains, list_any}
use Rattle.std.proofs.lemmas.List.Elements.{All-from_recursion, recursion_from_All}
use Rattle.jc_base.specs.Outside.{FileOf, IsFileAt}
use Rattle.jc_facts.specs.declared.class_facts.ClassFacts.{ClassFacts}
use Rattle.jc_facts.specs.declared.client.ClientClass.{ClientClass}
use Rattle.jc_facts.specs.declared.client.Item.{Item}
use Rattle.jc_facts.specs.file.ShortNames.{HasShortNames}
use Rattle.jc_facts.specs.Names.{Bytes, same}
use Rattle.jc_facts.specs.Exactly.{Before, NamesRise, Rises}
use Rattle.jc_facts.specs.world.World.{class_named, differ_by_name}
use Rattle.jc_facts.specs.client.Valid.{IsValidClient, facts_of}
use Rattle.jc_facts.proofs.Same.{same_is}
use Rattle.jc_facts.proofs.OneList.{not_both, not_self}
use Rattle.jc_lemmas.proofs.Listed.{EachOf, here, there, none, cases, each_in, not_any}
use Rattle.jc_facts.proofs.ClassFiles.{one_record}
use Rattle.jc_facts.proofs.ModuleFiles.{one_module}
use Rattle.std.proofs.lemmas.Bool.{and_parts, ltb-false, ltb-true}
use Rattle.std.proofs.lemmas.List.{length-map}
use Rattle.jc_trees.specs.declared.trees_error.TreesError.{TreesError}
use Rattle.jc_trees.specs.declared.trees_error.TreesError.TheVariants as trees_errors
use Rattle.jc_trees.specs.declared.file_fault.FileFault.{FileFault}
use Rattle.jc_trees.specs.declared.file_fault.TreeFault.TheVariants as tree_faults
use Rattle.jc_base.specs.States.{TreesState, Change}
use Rattle.jc_trees.specs.declared.limits.TheConstants.{MAX_FILES, MAX_PATH}
use Rattle.jc_trees.specs.ClassFiles.{Told, FileRead, ClassRead, ModuleRead, IsClassPathOf, AreClassPaths, reads_module, is_module_path, module_path, path_of, path_read, items_in, IsClassRead, IsReadIn, HasShortPaths, HasLongPath, IsFirstFault, IsFileIn, AreFiles}
use Rattle.jc_trees.specs.Tree.{TreeOf}
use Rattle.jc_trees.specs.declared.tree.TreeKind.{TreeKind}
use Rattle.jc_trees.proofs.Results.{same_ok}
use Rattle.jc_trees.specs.steps.ReadTree.{IsFitRead, classes_in, IsReadAt, AreReadAt, IsFirstOf, StopsAt, StopsIn}
use Rattle.jc_trees.specs.ClassLists.{IsClassList}

-- ---- the order of paths

-- of rising paths those before one stand in front of it
in_front : (front back : List Bytes) (path other : Bytes) → NamesRise (λ p. p) (front ++ path ∷ back) → Contains (front ++ path ∷ back) other → Before other path → Contains front other
unfolding Rises
in_front [] back path other r c b = absurd (go (cases path back other c))
  where
    go : (path ≡ other) ⊎ Contains back other → ⊥
    go (inl is) = not_self path (subst (λ (x : Bytes). Before x path) (sym is) b)
    go (inr k) = not_both path other (each_in (λ q. Before path q) back other r.0 k) b
in_front (f ∷ fs) back path other r c b = go (cases f (fs ++ path ∷ back) other c) (λ k. in_front fs back path other r.1 k b)
  where
    go : (f ≡ other) ⊎ Contains (fs ++ path ∷ back) other → (Contains (fs ++ path ∷ back) other → Contains fs other) → Contains (f ∷ fs) other
    go (inl is) more = subst (λ (x : Bytes). Contains (f ∷ fs) x) is (here f fs)
    go (inr k) more = there other f fs (more k)

each_mapped : {A : Type 0} (name : A → Bytes) (x : Bytes) (xs : List A) → EachOf (λ y. Before x y) (map name xs) → EachOf (λ y. Before x (name y)) xs
each_mapped name x [] h = tt
each_mapped name x (y ∷ ys) h = (h.0, each_mapped name x ys h.1)

rising_mapped : {A : Type 0} (name : A → Bytes) (xs : List A) → NamesRise (λ p. p) (map name xs) → NamesRise name xs
unfolding Rises
rising_mapped name [] h = tt
rising_mapped name (x ∷ xs) h = (each_mapped name (name x) xs h.0, rising_mapped name xs h.1)

-- what is read of rising paths rises
pub rising_files : (all : List FileRead) (paths : List Bytes) → map path_read all ≡ paths → NamesRise (λ p. p) paths → NamesRise path_read all
rising_files all paths is r = rising_mapped path_read all (subst (λ (ps : List Bytes). NamesRise (λ (p : Bytes). p) ps) (sym is) r)

-- and the classes among it rise
each_class : (x : Bytes) (all : List FileRead) → EachOf (λ y. Before x (path_read y)) all → EachOf (λ c. Before x (path_of c.facts.name)) (classes_in all)
each_class x [] h = tt
each_class x (ClassRead c ∷ rest) h = (h.0, each_class x rest h.1)
each_class x (ModuleRead packages ∷ rest) h = each_class x rest h.1

rising_classes : (all : List FileRead) → NamesRise path_read all → NamesRise (λ c. path_of c.facts.name) (classes_in all)
unfolding Rises
rising_classes [] r = tt
rising_classes (ClassRead c ∷ rest) r = (each_class (path_of c.facts.name) rest r.0, rising_classes rest r.1)
rising_classes (ModuleRead packages ∷ rest) r = rising_classes rest r.1

-- ---- the names of classes whose paths rise differ

not_named : (x : Bytes) (cs : List ClientClass) → EachOf (λ c. Before (path_of x) (path_of c.facts.name)) cs → class_named (facts_of cs) x ≡ None
unfolding class_named
not_named x [] h = refl
not_named x (d ∷ ds) h = go (same d.facts.name x) refl (not_named x ds h.1)
  where
    go : (b : Bool) → same d.facts.name x ≡ b → class_named (facts_of ds) x ≡ None → cond b (Some d.facts) (class_named (facts_of ds) x) ≡ None
    go true q e = absurd (not_self (path_of x) (subst (λ (n : Bytes). Before (path_of x) (path_of n)) (same_is d.facts.name x q) h.0))
    go false q e = e

differ_step : (o : Option ClassFacts) (b : Bool) → o ≡ None → b ≡ true → (is_none o && b) ≡ true
differ_step None b e h = h
differ_step (Some c) b e h = absurd (let clash : Some c ≡ None = e in cc)

differ_rising : (cs : List ClientClass) → NamesRise (λ c. path_of c.facts.name) cs → differ_by_name (facts_of cs) ≡ true
unfolding differ_by_name Rises
differ_rising [] r = refl
differ_rising (c ∷ cs) r = differ_step (class_named (facts_of cs) c.facts.name) (differ_by_name (facts_of cs)) (not_named c.facts.name cs r.0) (differ_rising cs r.1)

valid_classes : (all : List FileRead) → EachOf IsFitRead all → EachOf IsValidClient (classes_in all)
valid_classes [] h = tt
valid_classes (ClassRead c ∷ rest) h = (h.0.0, valid_classes rest h.1)
valid_classes (ModuleRead packages ∷ rest) h = valid_classes rest h.1

short_classes : (all : List FileRead) → EachOf IsFitRead all → EachOf (λ c. HasShortNames c.facts) (classes_in all)
short_classes [] h = tt
short_classes (ClassRead c ∷ rest) h = (h.0.1, short_classes rest h.1)
short_classes (ModuleRead packages ∷ rest) h = short_classes rest h.1

few_classes : (all : List FileRead) → length (classes_in all) ≤ length all
few_classes [] = omega arith
few_classes (ClassRead c ∷ rest) = let le = few_classes rest in omega arith
few_classes (ModuleRead packages ∷ rest) = let le = few_classes rest in omega arith

-- the classes that are read of a listing
pub class_list : (all : List FileRead) (paths : List Bytes) → map path_read all ≡ paths → NamesRise (λ p. p) paths → length paths ≤ MAX_FILES → All IsFitRead all → IsClassList (classes_in all)
class_list all paths is r few fit =
    let long : length all ≡ length paths = sym (length-map all path_read) ∙ ap length is in
    let less = few_classes all in
    let each = recursion_from_All IsFitRead all fit in
    record {
      valid = All-from_recursion IsValidClient (classes_in all) (valid_classes all each);
      short = All-from_recursion (λ c. HasShortNames c.facts) (classes_in all) (short_classes all each);
      differ = differ_rising (classes_in all) (rising_classes all (rising_files all paths is r));
      few = omega (arith, few, long, less);
    }

-- ---- what stands at a path

record ReadThere (files : List FileOf) (tree : TreeOf) (path : Bytes) (all : List FileRead) : Type 0 where
  found : FileRead
  is_in : Contains all found
  read : IsReadAt files tree path found

read_there : (files : List FileOf) (tree : TreeOf) (paths : List Bytes) (all : List FileRead) (path : Bytes) → AreReadAt files tree paths all → Contains paths path
    → ReadThere files tree path all
read_there files tree [] [] path r c = absurd (none path c)
read_there files tree (p ∷ ps) (h ∷ hs) path r c = go (cases p ps path c) (read_there files tree ps hs path r.1)
  where
    go : (p ≡ path) ⊎ Contains ps path → (Contains ps path → ReadThere files tree path hs) → ReadThere files tree path (h ∷ hs)
    go (inl is) more = record { found = h; is_in = here h hs; read = subst (λ (q : Bytes). IsReadAt files tree q h) is r.0 }
    go (inr k) more = let t = more k in record { found = t.found; is_in = there t.found h hs t.is_in; read = t.read }
read_there files tree [] (h ∷ hs) path r c = absurd r
read_there files tree (p ∷ ps) [] path r c = absurd r

-- a place holds one file
pub one_file : (files : List FileOf) (root path a b : Bytes) → IsFileAt files root path a → IsFileAt files root path b → a ≡ b
one_file files root path a b h k = let same : Some a ≡ Some b = sym h ∙ k in cc

readable : (files : List FileOf) (tree : TreeOf) (path bytes : Bytes) (read : FileRead) → IsFileAt files tree.root path bytes → IsReadAt files tree path read → IsReadIn tree.kind path bytes read
readable files tree path bytes read is_file r = subst (λ (b : Bytes). IsReadIn tree.kind path b read) (one_file files tree.root path r.bytes bytes r.is_file is_file) r.is_read

-- what is read stands at its place
pub place_read : (kind : TreeKind) (path bytes : Bytes) (read : FileRead) → IsReadIn kind path bytes read → path ≡ path_read read
place_read kind path bytes (ClassRead c) h = h.facts.place
place_read kind path bytes (ModuleRead packages) h = same_is path module_path (and_parts (reads_module kind) (same path module_path) h.of_module).1

-- a path isn't that of a module's file, and that of one
pub two_places : {P : Type 0} (b : Bool) → b ≡ false → b ≡ true → P
two_places b isnt is = absurd (let clash : true ≡ false = sym is ∙ isnt in cc)

-- a file is read as one class
one_class : (kind : TreeKind) (path bytes : Bytes) (a b : ClientClass) → IsClassRead kind path bytes a → IsClassRead kind path bytes b → a ≡ b
one_class kind path bytes a b h k =
    ap (λ (f : ClassFacts). let c : ClientClass = record { facts = f; items = a.items } in c) (one_record bytes a.facts b.facts h.facts.reads k.facts.reads)
    ∙ ap (λ (is : List Item). let c : ClientClass = record { facts = b.facts; items = is } in c) (same_ok (items_in kind bytes) a.items b.items h.code k.code)

-- and as one thing
one_file_read : (kind : TreeKind) (path bytes : Bytes) (a b : FileRead) → IsReadIn kind path bytes a → IsReadIn kind path bytes b → a ≡ b
one_file_read kind path bytes (ClassRead a) (ClassRead b) h k = ap ClassRead (one_class kind path bytes a b h k)
one_file_read kind path bytes (ClassRead a) (ModuleRead qs) h k = two_places (is_module_path kind path) h.no_module k.of_module
one_file_read kind path bytes (ModuleRead ps) (ClassRead b) h k = two_places (is_module_path kind path) k.no_module h.of_module
one_file_read kind path bytes (ModuleRead ps) (ModuleRead qs) h k = ap ModuleRead (one_module bytes ps qs h.reads k.reads)

-- ---- the tree

files_in : (files : List FileOf) (tree : TreeOf) (paths : List Bytes) (all : List FileRead) → EachOf (IsClassPathOf files tree) paths → AreReadAt files tree paths all
    → EachOf (IsFileIn files tree) all
files_in files tree [] [] c r = tt
files_in files tree (p ∷ ps) (h ∷ hs) c r = (
  record {
    path = p;
    bytes = r.0.bytes;
    is_file = record { is_file = r.0.is_file; named = c.0.named };
    is_read = r.0.is_read;
  },
  files_in files tree ps hs c.1 r.1,
)
files_in files tree [] (h ∷ hs) c r = absurd r
files_in files tree (p ∷ ps) [] c r = absurd r

-- no path of the list is too long
pub short_paths : (files : List FileOf) (tree : TreeOf) (paths : List Bytes) → AreClassPaths files tree paths → list_any (λ p. nat_lt MAX_PATH (length p)) paths ≡ false → HasShortPaths files tree
short_paths files tree paths are short path is_path = ltb-false _ _ (not_any (λ p. nat_lt MAX_PATH (length p)) paths path short (are.complete path is_path))

record Long (paths : List Bytes) : Type 0 where
  path : Bytes
  is_in : Contains paths path
  long : nat_lt MAX_PATH (length path) ≡ true

some_long : (paths : List Bytes) → list_any (λ p. nat_lt MAX_PATH (length p)) paths ≡ true → Long paths
some_long [] e = absurd (cc)
some_long (p ∷ ps) e = go (nat_lt MAX_PATH (length p)) refl e (some_long ps)
  where
    go : (b : Bool) → nat_lt MAX_PATH (length p) ≡ b → (b || list_any (λ q. nat_lt MAX_PATH (length q)) ps) ≡ true → (list_any (λ q. nat_lt MAX_PATH (length q)) ps ≡ true → Long ps) → Long (p ∷ ps)
    go true q e more = record { path = p; is_in = here p ps; long = q }
    go false q e more = let l = more e in record { path = l.path; is_in = there l.path p ps l.is_in; long = l.long }

pub long_path : (files : List FileOf) (tree : TreeOf) (paths : List Bytes) → AreClassPaths files tree paths → list_any (λ p. nat_lt MAX_PATH (length p)) paths ≡ true → HasLongPath files tree
long_path files tree paths are e =
    let l = some_long paths e in
    record { path = l.path; is_path = each_in (IsClassPathOf files tree) paths l.path (recursion_from_All (IsClassPathOf files tree) paths are.sound) l.is_in; long = ltb-true _ _ l.long }

pub files_are : (files : List FileOf) (tree : TreeOf) (paths : List Bytes) (all : List FileRead) → AreClassPaths files tree paths → length paths ≤ MAX_FILES
    → list_any (λ p. nat_lt MAX_PATH (length p)) paths ≡ false → AreReadAt files tree paths all → map path_read all ≡ paths → AreFiles files tree all
files_are files tree paths all exact few short r named = record {
  clean = record {
    few = record { paths = paths; are = exact; few = few };
    short = short_paths files tree paths exact short;
    read = λ path bytes f.
        let t = read_there files tree paths all path r (exact.complete path (record { held = (bytes, f.is_file); named = f.named })) in
        (t.found, readable files tree path bytes t.found f.is_file t.read);
  };
  exact = record {
    in_order = rising_files all paths named exact.in_order;
    sound = All-from_recursion (IsFileIn files tree) all (files_in files tree paths all (recursion_from_All (IsClassPathOf files tree) paths exact.sound) r);
    complete = λ read i.
        let t = read_there files tree paths all i.path r (exact.complete i.path (record { held = (i.bytes, i.is_file.is_file); named = i.is_file.named })) in
        let h = readable files tree i.path i.bytes t.found i.is_file.is_file t.read in
        let is : t.found ≡ read = one_file_read tree.kind i.path i.bytes t.found read h i.is_read in
        subst (λ (k : FileRead). Contains all k) is t.is_in;
  };
}

pub first_fault : (files : List FileOf) (tree : TreeOf) (paths : List Bytes) (path : Bytes) (fault : FileFault) → AreClassPaths files tree paths → IsFirstOf files tree paths path fault
    → IsFirstFault files tree path fault
first_fault files tree paths path fault exact f = record {
  bytes = f.fault_is.bytes;
  is_file = record { is_file = f.fault_is.is_file; named = (each_in (IsClassPathOf files tree) paths path (recursion_from_All (IsClassPathOf files tree) paths exact.sound) is_in).named };
  is_fault = f.fault_is.is_fault;
  before = λ other bytes k b.
      let listed : Contains paths other = exact.complete other (record { held = (bytes, k.is_file); named = k.named }) in
      let t = read_there files tree f.front f.all other f.read
      (in_front f.front f.back path other (subst (λ (ps : List Bytes). NamesRise (λ (p : Bytes). p) ps) f.whole exact.in_order) (subst (λ (ps : List Bytes). Contains ps other) f.whole listed) b) in
      (t.found, readable files tree other bytes t.found k.is_file t.read);
}
  where
    behind : (front : List Bytes) → Contains (front ++ path ∷ f.back) path
    behind [] = here path f.back
    behind (p ∷ ps) = there path p (ps ++ path ∷ f.back) (behind ps)

    is_in : Contains paths path
    is_in = subst (λ (ps : List Bytes). Contains ps path) (sym f.whole) (behind f.front)

-- ---- why it stopped

pub stops_file : (c : Change TreesState) (tree : TreeOf) (paths : List Bytes) (path : Bytes) (fault : FileFault) (error : TreesError)
    → (error ≡ trees_errors.Unread tree.name (tree_faults.File path fault)) ⊎ (error ≡ trees_errors.Memory) → Told c.before.content (λ files. IsFirstOf files tree paths path fault) → StopsAt c tree paths error
stops_file c tree paths path fault error (inl is) f = subst (λ (e : TreesError). StopsAt c tree paths e) (sym is) (refl, f)
stops_file c tree paths path fault error (inr is) f = subst (λ (e : TreesError). StopsAt c tree paths e) (sym is) tt

-- a count that rose later rose
pub rose_since : (before middle after : ℕ) → before ≤ middle → Rose middle after → Rose before after
rose_since before middle after le rose = omega arith

pub stops_in : (a b c : TreesState) (tree : TreeOf) (paths : List Bytes) → Told a.content (λ files. AreClassPaths files tree paths)
    → length paths ≤ MAX_FILES → list_any (λ p. nat_lt MAX_PATH (length p)) paths ≡ false → b.content ≡ a.content → ((r : Bytes) → a.faults r ≤ b.faults r)
    → (error : TreesError) → StopsAt (record { before = b; after = c }) tree paths error → StopsIn (record { before = a; after = c }) tree error
stops_in a b c tree paths exact few short same le (trees_errors.Unread t (tree_faults.File path fault)) s = (
  s.0,
  λ files told. (
    record { paths = paths; are = exact files told; few = few },
    short_paths files tree paths (exact files told) short,
    first_fault files tree paths path fault (exact files told) (s.1 files (same ∙ told)),
  ),
)
stops_in a b c tree paths exact few short same le (trees_errors.Unread t tree_faults.TooManyFiles) s = absurd s
stops_in a b c tree paths exact few short same le (trees_errors.Unread t tree_faults.LongPath) s = absurd s
stops_in a b c tree paths exact few short same le (trees_errors.Fault t) s = (s.0, rose_since (a.faults tree.root) (b.faults tree.root) (c.faults tree.root) (le tree.root) s.1)
stops_in a b c tree paths exact few short same le trees_errors.Memory s = tt
