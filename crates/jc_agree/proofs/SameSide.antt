-- What a tree is read as doesn't depend on what it is called, so that two commands see one side.
use Rattle.std.proofs.Common.{◌≡◌, Bool, List, map, subst}
use Rattle.jc_base.specs.Outside.{FileOf}
use Rattle.jc_facts.specs.declared.class_facts.ClassFacts.{ClassFacts}
use Rattle.jc_facts.specs.Exactly.{by_names}
use Rattle.jc_facts.specs.Names.{Bytes}
use Rattle.jc_facts.specs.world.World.{Modules, side_in}
use Rattle.jc_facts.proofs.InOrder.{exact_same}
use Rattle.jc_trees.specs.ClassFiles.{FileRead, ClassRead, IsClassFile, IsClassPathOf, AreClassPaths, path_read, IsClean, IsFileIn, AreFiles, without_code}
use Rattle.jc_trees.specs.ReadTrees.{Gives}
use Rattle.jc_trees.specs.Tree.{TreeOf, library_at}
use Rattle.jc_trees.specs.declared.tree.TreeName.{TreeName}
use Rattle.jc_trees.specs.declared.tree.TreeName.TheVariants as names
use Rattle.jc_trees.specs.declared.tree_read.TreeRead.{TreeRead}
use Rattle.jc_trees.specs.declared.tree_read.TreeRead.TheVariants as reads
use Rattle.jc_trees.proofs.OneRead.{one_given}
use Rattle.jc_commands.specs.Check.{CheckRecords, old_side, new_side}
use Rattle.jc_releases.specs.Command.{release_tree}
use Rattle.jc_words.specs.Command.{CheckOf, LinkOf, ClientsOf}
use Rattle.jc_commands.specs.Clients.{ClientsRecords, side_before, side_after}
use Rattle.jc_commands.specs.Link.{LinkRecords, release_side}
use Rattle.jc_releases.specs.Releases.{read_as}
use Rattle.jc_commands.proofs.Records.{same_library, same_side}
use Rattle.jc_agree.specs.SameSide.{SeeTheSameSide, SeeTheSameSides}

-- ---- a tree of another name

abbrev named : TreeName → TreeOf → TreeOf
named name t = record { name = name; root = t.root; kind = t.kind }

module _ (files : List FileOf) (name : TreeName) (t : TreeOf) where
  path_to : (p : Bytes) → IsClassPathOf files t p → IsClassPathOf files (named name t) p
  path_to p h = record { held = h.held; named = h.named }

  path_from : (p : Bytes) → IsClassPathOf files (named name t) p → IsClassPathOf files t p
  path_from p h = record { held = h.held; named = h.named }

  file_to : (p bytes : Bytes) → IsClassFile files t p bytes → IsClassFile files (named name t) p bytes
  file_to p bytes h = record { is_file = h.is_file; named = h.named }

  file_from : (p bytes : Bytes) → IsClassFile files (named name t) p bytes → IsClassFile files t p bytes
  file_from p bytes h = record { is_file = h.is_file; named = h.named }

  paths_to : (ps : List Bytes) → AreClassPaths files t ps → AreClassPaths files (named name t) ps
  paths_to ps h = exact_same (by_names (λ p. p)) (IsClassPathOf files t) (IsClassPathOf files (named name t)) ps path_to path_from h

  clean_to : IsClean files t → IsClean files (named name t)
  clean_to h = record {
    few = record { paths = h.few.paths; are = paths_to h.few.paths h.few.are; few = h.few.few };
    short = λ p k. h.short p (path_from p k);
    read = λ p bytes k. h.read p bytes (file_from p bytes k);
  }

  in_to : (read : FileRead) → IsFileIn files t read → IsFileIn files (named name t) read
  in_to read h = record { path = h.path; bytes = h.bytes; is_file = file_to h.path h.bytes h.is_file; is_read = h.is_read }

  in_from : (read : FileRead) → IsFileIn files (named name t) read → IsFileIn files t read
  in_from read h = record { path = h.path; bytes = h.bytes; is_file = file_from h.path h.bytes h.is_file; is_read = h.is_read }

  files_to : (all : List FileRead) → AreFiles files t all → AreFiles files (named name t) all
  files_to all h = record { clean = clean_to h.clean; exact = exact_same (by_names path_read) (IsFileIn files t) (IsFileIn files (named name t)) all in_to in_from h.exact }

  pub gives_to : (read : TreeRead) → Gives files t read → Gives files (named name t) read
  gives_to (reads.Library records) h = (h.0, files_to (map ClassRead (without_code records)) h.1)
  gives_to (reads.Modular m) h = (h.0, record { all = h.1.all; are = files_to h.1.all h.1.are; records_are = h.1.records_are; exports_are = h.1.exports_are })
  gives_to (reads.Clients cs) h = (h.0, files_to (map ClassRead cs) h.1)

-- ---- two commands

module _ (files : List FileOf) (check : CheckOf) (link : LinkOf) (r : CheckRecords files check) (s : LinkRecords files link) (platform : link.platform ≡ check.platform) (modular : link.modular ≡ check.modular) where
  one_platform : s.platform ≡ r.platform
  one_platform = same_library s.platform r.platform
      (one_given files (library_at names.Platform check.platform) (reads.Library s.platform) (reads.Library r.platform)
      (subst (λ (root : Bytes). Gives files (library_at names.Platform root) (reads.Library s.platform)) platform s.are.0) r.are.0)

  read_again : (name : TreeName) (root : Bytes) → link.release ≡ root → Gives files (release_tree check.modular name root) (read_as s.modules s.release)
  read_again name root is =
      gives_to files name (release_tree check.modular names.Release root) (read_as s.modules s.release)
      (subst (λ (b : Bool). Gives files (release_tree b names.Release root) (read_as s.modules s.release)) modular
      (subst (λ (x : Bytes). Gives files (release_tree link.modular names.Release x) (read_as s.modules s.release)) is s.are.1.0))

  one_side : (name : TreeName) (root : Bytes) (m : Modules) (records : List ClassFacts) → Gives files (release_tree check.modular name root) (read_as m records) → link.release ≡ root
      → release_side s ≡ side_in m r.platform records
  one_side name root m records h is =
      same_side s.modules m s.platform r.platform s.release records one_platform
      (one_given files (release_tree check.modular name root) (read_as s.modules s.release) (read_as m records) (read_again name root is) h)

pub same_sides : SeeTheSameSide
same_sides files check link r s platform modular = (
  one_side files check link r s platform modular names.Old check.old r.old_modules r.old r.are.1.0,
  one_side files check link r s platform modular names.New check.new r.new_modules r.new r.are.1.1.0,
)

-- ---- the two releases of a check

module _ (files : List FileOf) (check : CheckOf) (clients : ClientsOf) (r : CheckRecords files check) (s : ClientsRecords files clients)
    (platform : clients.platform ≡ check.platform) (modular : clients.modular ≡ check.modular) where
  shared_platform : s.platform ≡ r.platform
  shared_platform = same_library s.platform r.platform
      (one_given files (library_at names.Platform check.platform) (reads.Library s.platform) (reads.Library r.platform)
      (subst (λ (root : Bytes). Gives files (library_at names.Platform root) (reads.Library s.platform)) platform s.are.0) r.are.0)

  moved : (name : TreeName) (root at : Bytes) (m : Modules) (records : List ClassFacts) → root ≡ at → Gives files (release_tree clients.modular name root) (read_as m records)
      → Gives files (release_tree check.modular name at) (read_as m records)
  moved name root at m records is h =
      subst (λ (b : Bool). Gives files (release_tree b name at) (read_as m records)) modular (subst (λ (x : Bytes). Gives files (release_tree clients.modular name x) (read_as m records)) is h)

  before : clients.old ≡ check.old → side_before s ≡ old_side r
  before is =
      same_side s.old_modules r.old_modules s.platform r.platform s.old r.old shared_platform
      (one_given files (release_tree check.modular names.Old check.old) (read_as s.old_modules s.old) (read_as r.old_modules r.old)
      (moved names.Old clients.old check.old s.old_modules s.old is s.are.1.0) r.are.1.0)

  after : clients.new ≡ check.new → side_after s ≡ new_side r
  after is =
      same_side s.new_modules r.new_modules s.platform r.platform s.new r.new shared_platform
      (one_given files (release_tree check.modular names.New check.new) (read_as s.new_modules s.new) (read_as r.new_modules r.new)
      (moved names.New clients.new check.new s.new_modules s.new is s.are.1.1.0) r.are.1.1.0)

pub both_sides : SeeTheSameSides
both_sides files check clients r s platform old new modular = (before files check clients r s platform modular old, after files check clients r s platform modular new)
