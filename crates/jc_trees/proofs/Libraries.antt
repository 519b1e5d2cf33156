-- A library is read as records: classes without items, and, where it may be a named module, what this exports.
use Rattle.std.proofs.Common.{◌≡◌, ◌∙◌, List, [], ◌∷◌, Option, map, refl, sym, ap, subst, arith, rules}
use Rattle.std.specs.Prelude.{Ok, false}
use Rattle.std.proofs.lemmas.List.Elements.{All-from_recursion, recursion_from_All}
use Rattle.jc_base.specs.Outside.{FileOf}
use Rattle.jc_facts.specs.file.ShortNames.{HasShortNames}
use Rattle.jc_facts.specs.declared.class_facts.ClassFacts.{ClassFacts}
use Rattle.jc_facts.specs.declared.client.ClientClass.{ClientClass}
use Rattle.jc_facts.specs.declared.client.Item.{Item}
use Rattle.jc_facts.specs.client.Valid.{IsValidClient, facts_of}
use Rattle.jc_facts.specs.file.Valid.{IsValidClass}
use Rattle.jc_facts.specs.Names.{Bytes}
use Rattle.jc_facts.proofs.Clients.{facts_length, facts_valid}
use Rattle.jc_facts.proofs.ReadLists.{read_valid}
use Rattle.jc_lemmas.proofs.Listed.{EachOf}
use Rattle.jc_trees.specs.ClassFiles.{FileRead, ClassRead, ModuleRead, reads_module, is_module_path, items_in, IsReadAs, IsFileIn, AreFiles, AreClasses, AreRecords, AreModular, without_items, without_code, records_in, exports_in}
use Rattle.jc_trees.specs.ClassLists.{IsClassList, IsRecordList}
use Rattle.jc_trees.specs.ReadTrees.{Gives}
use Rattle.jc_trees.specs.steps.ReadTree.{IsFitRead, classes_in}
use Rattle.jc_trees.specs.Tree.{TreeOf}
use Rattle.jc_trees.specs.declared.tree.TreeKind.{TreeKind}
use Rattle.jc_trees.specs.declared.tree.TreeKind.TheVariants as kinds
use Rattle.jc_trees.specs.declared.tree_read.TreeRead.TheVariants as reads
use Rattle.jc_trees.proofs.Results.{same_ok}
use Rattle.jc_trees.proofs.TreeRead.{two_places}
use Rattle.jc_trees.proofs.ShortPaths.{short_records}

pub facts_without_code : (records : List ClassFacts) → facts_of (without_code records) ≡ records
facts_without_code [] = refl
facts_without_code (c ∷ cs) = ap (λ (xs : List ClassFacts). c ∷ xs) (facts_without_code cs)

-- a class without items is valid where its record is
pub fit_record : (path bytes : Bytes) (facts : ClassFacts) → IsReadAs path bytes facts → HasShortNames facts → IsFitRead (ClassRead (without_items facts))
fit_record path bytes facts read short = (record { facts = read_valid bytes facts read.reads; items = refl }, short)

-- ---- the classes among what is read

pub classes_among : (cs : List ClientClass) → classes_in (map ClassRead cs) ≡ cs
classes_among [] = refl
classes_among (c ∷ cs) = ap (λ (ds : List ClientClass). c ∷ ds) (classes_among cs)

pub records_among : (all : List FileRead) → facts_of (classes_in all) ≡ records_in all
records_among [] = refl
records_among (ClassRead c ∷ rest) = ap (λ (rs : List ClassFacts). c.facts ∷ rs) (records_among rest)
records_among (ModuleRead packages ∷ rest) = records_among rest

-- what is read of each, one by one
pub read_records : (records : List ClassFacts) → map (λ (c : ClassFacts). ClassRead (without_items c)) records ≡ map ClassRead (without_code records)
read_records [] = refl
read_records (c ∷ cs) = ap (λ (xs : List FileRead). ClassRead (without_items c) ∷ xs) (read_records cs)

-- where no file of a module is read, all that is read are classes
module _ (files : List FileOf) (tree : TreeOf) (no_module : reads_module tree.kind ≡ false) where
  no_place : (path : Bytes) → is_module_path tree.kind path ≡ false
  no_place path = search (rules, no_module)

  one_class : (read : FileRead) (rest : List FileRead) → IsFileIn files tree read → map ClassRead (classes_in rest) ≡ rest → map ClassRead (classes_in (read ∷ rest)) ≡ read ∷ rest
  one_class (ClassRead c) rest i e = ap (λ (xs : List FileRead). ClassRead c ∷ xs) e
  one_class (ModuleRead packages) rest i e = two_places (is_module_path tree.kind i.path) (no_place i.path) i.is_read.of_module

  pub all_classes : (all : List FileRead) → EachOf (IsFileIn files tree) all → map ClassRead (classes_in all) ≡ all
  all_classes [] h = refl
  all_classes (read ∷ rest) h = one_class read rest h.0 (all_classes rest h.1)

-- the classes of a library
module _ (files : List FileOf) (tree : TreeOf) (library : tree.kind ≡ kinds.Library) where
  no_items : (bytes : Bytes) → items_in tree.kind bytes ≡ Ok []
  no_items bytes = ap (λ (k : TreeKind). items_in k bytes) library

  no_code : (cs : List ClientClass) → EachOf (IsFileIn files tree) (map ClassRead cs) → without_code (facts_of cs) ≡ cs
  no_code [] h = refl
  no_code (c ∷ cs) h =
      ap (λ (is : List Item). let d : ClientClass = record { facts = c.facts; items = is } in d ∷ without_code (facts_of cs)) (sym (same_ok (items_in tree.kind h.0.bytes) c.items [] h.0.is_read.code (no_items h.0.bytes)))
      ∙ ap (λ (ds : List ClientClass). c ∷ ds) (no_code cs h.1)

  pub library_records : (cs : List ClientClass) → AreClasses files tree cs → AreRecords files tree (facts_of cs)
  library_records cs h = subst (AreClasses files tree) (sym (no_code cs (recursion_from_All (IsFileIn files tree) (map ClassRead cs) h.exact.sound))) h

-- ---- lists

record_list : (cs : List ClientClass) → IsClassList cs → IsRecordList (facts_of cs)
record_list cs h = record {
  valid = All-from_recursion IsValidClass (facts_of cs) (facts_valid cs (recursion_from_All IsValidClient cs h.valid));
  short = short_records cs h.short;
  differ = h.differ;
  few = omega (arith, facts_length cs, h.few);
}

-- the records of a library
pub library_list : (records : List ClassFacts) → IsClassList (classes_in (map (λ (c : ClassFacts). ClassRead (without_items c)) records)) → IsRecordList records
library_list records h =
    let is : classes_in (map (λ (c : ClassFacts). ClassRead (without_items c)) records) ≡ without_code records = ap classes_in (read_records records) ∙ classes_among (without_code records) in
    subst IsRecordList (facts_without_code records) (record_list (without_code records) (subst IsClassList is h))

-- those of one that may be a named module
pub modular_list : (all : List FileRead) (records : List ClassFacts) → records ≡ records_in all → IsClassList (classes_in all) → IsRecordList records
modular_list all records is h = subst IsRecordList (records_among all ∙ sym is) (record_list (classes_in all) h)

-- clients
pub client_list : (cs : List ClientClass) → IsClassList (classes_in (map ClassRead cs)) → IsClassList cs
client_list cs h = subst IsClassList (classes_among cs) h

-- ---- what a tree is read as

pub gives_library : (files : List FileOf) (tree : TreeOf) (items records : List ClassFacts) → items ≡ records → tree.kind ≡ kinds.Library → AreRecords files tree records → Gives files tree (reads.Library items)
gives_library files tree items records is kind h = (kind, subst (AreRecords files tree) (sym is) h)

pub gives_clients : (files : List FileOf) (tree : TreeOf) (items clients : List ClientClass) → items ≡ clients → tree.kind ≡ kinds.Clients → AreClasses files tree clients → Gives files tree (reads.Clients items)
gives_clients files tree items clients is kind h = (kind, subst (AreClasses files tree) (sym is) h)

pub modular_are : (files : List FileOf) (tree : TreeOf) (all : List FileRead) (records : List ClassFacts) (exports : Option (List Bytes)) → AreFiles files tree all → records ≡ records_in all → exports ≡ exports_in all
    → AreModular files tree records exports
modular_are files tree all records exports are rs es = record { all = all; are = are; records_are = sym rs; exports_are = sym es }
