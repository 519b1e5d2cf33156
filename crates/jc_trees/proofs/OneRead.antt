-- Trees are read as one thing.
use Rattle.std.proofs.Common.{◌≡◌, ◌∙◌, List, [], ◌∷◌, Option, refl, sym, ap}
use Rattle.jc_base.specs.Outside.{FileOf}
use Rattle.jc_facts.specs.declared.class_facts.ClassFacts.{ClassFacts}
use Rattle.jc_facts.specs.declared.client.ClientClass.{ClientClass}
use Rattle.jc_facts.specs.client.Valid.{facts_of}
use Rattle.jc_facts.specs.Names.{Bytes}
use Rattle.jc_facts.proofs.OneList.{one_exact}
use Rattle.jc_trees.specs.ClassFiles.{FileRead, ClassRead, path_read, IsClean, IsFileIn, AreFiles, AreClasses, AreRecords, AreModular, without_code, records_in, exports_in}
use Rattle.std.specs.Prelude.{map}
use Rattle.jc_trees.specs.ReadTrees.{Gives, GiveAll}
use Rattle.jc_trees.specs.Tree.{TreeOf}
use Rattle.jc_trees.specs.declared.tree.TreeKind.{TreeKind}
use Rattle.jc_trees.specs.declared.tree.TreeKind.TheVariants as kinds
use Rattle.jc_trees.specs.declared.tree_read.ModularRead.{ModularRead}
use Rattle.jc_trees.specs.declared.tree_read.TreeRead.{TreeRead}
use Rattle.jc_trees.specs.declared.tree_read.TreeRead.TheVariants as reads
use Rattle.jc_trees.specs.steps.ReadTree.{classes_in}
use Rattle.jc_trees.proofs.Libraries.{facts_without_code, classes_among}
use Rattle.jc_trees.proofs.OneFault.{AreClean}

one_of_files : (files : List FileOf) (tree : TreeOf) (a b : List FileRead) → AreFiles files tree a → AreFiles files tree b → a ≡ b
one_of_files files tree a b h k = one_exact path_read (IsFileIn files tree) a b h.exact k.exact

one_of_classes : (files : List FileOf) (tree : TreeOf) (a b : List ClientClass) → AreClasses files tree a → AreClasses files tree b → a ≡ b
one_of_classes files tree a b h k = sym (classes_among a) ∙ ap classes_in (one_of_files files tree (map ClassRead a) (map ClassRead b) h k) ∙ classes_among b

one_of_records : (files : List FileOf) (tree : TreeOf) (a b : List ClassFacts) → AreRecords files tree a → AreRecords files tree b → a ≡ b
one_of_records files tree a b h k = sym (facts_without_code a) ∙ ap facts_of (one_of_classes files tree (without_code a) (without_code b) h k) ∙ facts_without_code b

one_of_modular : (files : List FileOf) (tree : TreeOf) (a b : ModularRead) → AreModular files tree a.records a.exports → AreModular files tree b.records b.exports → a ≡ b
one_of_modular files tree a b h k =
    let same : h.all ≡ k.all = one_of_files files tree h.all k.all h.are k.are in
    let records : a.records ≡ b.records = sym h.records_are ∙ ap records_in same ∙ k.records_are in
    let exports : a.exports ≡ b.exports = sym h.exports_are ∙ ap exports_in same ∙ k.exports_are in
    ap (λ (rs : List ClassFacts). let m : ModularRead = record { records = rs; exports = a.exports } in m) records
    ∙ ap (λ (es : Option (List Bytes)). let m : ModularRead = record { records = b.records; exports = es } in m) exports

-- a tree is of one kind
no_two_kinds : {P : Type 0} (tree : TreeOf) (k l : TreeKind) → (k ≡ l → ⊥) → tree.kind ≡ k → tree.kind ≡ l → P
no_two_kinds tree k l differ h i = absurd (differ (sym h ∙ i))

library_modular : kinds.Library ≡ kinds.Modular → ⊥
library_modular e = absurd (cc)

library_clients : kinds.Library ≡ kinds.Clients → ⊥
library_clients e = absurd (cc)

modular_clients : kinds.Modular ≡ kinds.Clients → ⊥
modular_clients e = absurd (cc)

two_kinds : {P : Type 0} (tree : TreeOf) → tree.kind ≡ kinds.Library → tree.kind ≡ kinds.Clients → P
two_kinds tree h k = no_two_kinds tree kinds.Library kinds.Clients library_clients h k

two_libraries : {P : Type 0} (tree : TreeOf) → tree.kind ≡ kinds.Library → tree.kind ≡ kinds.Modular → P
two_libraries tree h k = no_two_kinds tree kinds.Library kinds.Modular library_modular h k

no_modular : {P : Type 0} (tree : TreeOf) → tree.kind ≡ kinds.Modular → tree.kind ≡ kinds.Clients → P
no_modular tree h k = no_two_kinds tree kinds.Modular kinds.Clients modular_clients h k

-- a tree
pub one_given : (files : List FileOf) (tree : TreeOf) (a b : TreeRead) → Gives files tree a → Gives files tree b → a ≡ b
one_given files tree (reads.Library rs) (reads.Library ss) h k = ap reads.Library (one_of_records files tree rs ss h.1 k.1)
one_given files tree (reads.Library rs) (reads.Modular n) h k = two_libraries tree h.0 k.0
one_given files tree (reads.Library rs) (reads.Clients ds) h k = two_kinds tree h.0 k.0
one_given files tree (reads.Modular m) (reads.Library ss) h k = two_libraries tree k.0 h.0
one_given files tree (reads.Modular m) (reads.Modular n) h k = ap reads.Modular (one_of_modular files tree m n h.1 k.1)
one_given files tree (reads.Modular m) (reads.Clients ds) h k = no_modular tree h.0 k.0
one_given files tree (reads.Clients cs) (reads.Library ss) h k = two_kinds tree k.0 h.0
one_given files tree (reads.Clients cs) (reads.Modular n) h k = no_modular tree k.0 h.0
one_given files tree (reads.Clients cs) (reads.Clients ds) h k = ap reads.Clients (one_of_classes files tree cs ds h.1 k.1)

-- the trees
pub one_read : (files : List FileOf) (trees : List TreeOf) (a b : List TreeRead) → GiveAll files trees a → GiveAll files trees b → a ≡ b
one_read files [] [] [] h k = refl
one_read files [] [] (s ∷ b) h k = absurd k
one_read files [] (r ∷ a) b h k = absurd h
one_read files (t ∷ trees) [] b h k = absurd h
one_read files (t ∷ trees) (r ∷ a) [] h k = absurd k
one_read files (t ∷ trees) (r ∷ a) (s ∷ b) h k =
    ap (λ (x : TreeRead). x ∷ a) (one_given files t r s h.0 k.0) ∙ ap (λ (xs : List TreeRead). s ∷ xs) (one_read files trees a b h.1 k.1)

-- ---- trees that are read are clean

pub clean_given : (files : List FileOf) (tree : TreeOf) (a : TreeRead) → Gives files tree a → IsClean files tree
clean_given files tree (reads.Library rs) h = h.1.clean
clean_given files tree (reads.Modular m) h = h.1.are.clean
clean_given files tree (reads.Clients cs) h = h.1.clean

pub all_read_clean : (files : List FileOf) (trees : List TreeOf) (all : List TreeRead) → GiveAll files trees all → AreClean files trees
all_read_clean files [] all h = tt
all_read_clean files (t ∷ trees) [] h = absurd h
all_read_clean files (t ∷ trees) (r ∷ all) h = (clean_given files t r h.0, all_read_clean files trees all h.1)

-- ---- the first of the trees, where it is a library

pub record FirstLibrary (files : List FileOf) (tree : TreeOf) (trees : List TreeOf) (all : List TreeRead) : Type 0 where
  pub records : List ClassFacts
  pub rest : List TreeRead
  pub whole : all ≡ reads.Library records ∷ rest
  pub are : AreRecords files tree records
  pub others : GiveAll files trees rest

pub first_library : (files : List FileOf) (tree : TreeOf) (trees : List TreeOf) (all : List TreeRead) → tree.kind ≡ kinds.Library → GiveAll files (tree ∷ trees) all → FirstLibrary files tree trees all
first_library files tree trees [] library h = absurd h
first_library files tree trees (reads.Library rs ∷ rest) library h = record { records = rs; rest = rest; whole = refl; are = h.0.1; others = h.1 }
first_library files tree trees (reads.Modular m ∷ rest) library h = two_libraries tree library h.0.0
first_library files tree trees (reads.Clients cs ∷ rest) library h = two_kinds tree library h.0.0

-- and where it is clients

pub record FirstClients (files : List FileOf) (tree : TreeOf) (trees : List TreeOf) (all : List TreeRead) : Type 0 where
  pub clients : List ClientClass
  pub rest : List TreeRead
  pub whole : all ≡ reads.Clients clients ∷ rest
  pub are : AreClasses files tree clients
  pub others : GiveAll files trees rest

pub first_clients : (files : List FileOf) (tree : TreeOf) (trees : List TreeOf) (all : List TreeRead) → tree.kind ≡ kinds.Clients → GiveAll files (tree ∷ trees) all → FirstClients files tree trees all
first_clients files tree trees [] clients h = absurd h
first_clients files tree trees (reads.Library rs ∷ rest) clients h = two_kinds tree h.0.0 clients
first_clients files tree trees (reads.Modular m ∷ rest) clients h = no_modular tree h.0.0 clients
first_clients files tree trees (reads.Clients cs ∷ rest) clients h = record { clients = cs; rest = rest; whole = refl; are = h.0.1; others = h.1 }
