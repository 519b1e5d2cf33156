-- A step of a row and the check of its two releases.
use Rattle.std.proofs.Common.{◌≡◌, ℕ, zero, suc, ◌+◌, Bool, List, [], ◌∷◌, map, refl, ◌∙◌, ap, subst, Some, slice_get, arith}
use Rattle.jc_base.specs.Outside.{FileOf}
use Rattle.jc_facts.specs.declared.class_facts.ClassFacts.{ClassFacts}
use Rattle.jc_facts.specs.declared.verdict.Verdict.{Verdict}
use Rattle.jc_facts.specs.Names.{Bytes}
use Rattle.jc_facts.specs.world.World.{World, Modules, OneModule, side, side_in}
use Rattle.jc_promises.specs.rule.Verdict.{IsVerdict}
use Rattle.jc_history.specs.Row.{Step, steps_from, steps_of, AreVerdicts}
use Rattle.jc_sound.proofs.VerdictLaw.{verdict_is_one}
use Rattle.jc_trees.specs.ReadTrees.{Gives, GiveAll}
use Rattle.jc_trees.specs.Tree.{library_at}
use Rattle.jc_trees.specs.declared.tree.TreeName.{TreeName}
use Rattle.jc_trees.specs.declared.tree.TreeName.TheVariants as names
use Rattle.jc_trees.specs.declared.tree_read.TreeRead.TheVariants as reads
use Rattle.jc_trees.proofs.OneRead.{one_given}
use Rattle.jc_words.specs.Command.{CheckOf, HistoryOf}
use Rattle.jc_releases.specs.Command.{release_tree, release_trees}
use Rattle.jc_releases.specs.Releases.{read_as}
use Rattle.jc_commands.specs.Check.{CheckRecords, old_side, new_side}
use Rattle.jc_commands.specs.History.{HistoryRecords, row_of}
use Rattle.jc_commands.proofs.Records.{same_library, same_side}
use Rattle.jc_agree.specs.Steps.{IsCheckOfStep, SaysAsChecked, StepsAreChecks, StepsAreBorneOut}
use Rattle.jc_agree.proofs.SameSide.{gives_to}

-- ---- numbered

-- the step of a number is between the sides of that number and of the next
step_from : (platform first : List ClassFacts) (later : List (List ClassFacts)) (n : ℕ) (a b : List ClassFacts) → slice_get (first ∷ later) n ≡ Some a → slice_get (first ∷ later) (suc n) ≡ Some b
    → slice_get (steps_from (side platform first) (row_of platform later)) n ≡ Some (record { old = side platform a; new = side platform b })
step_from platform first [] zero a b h k = absurd (cc)
step_from platform first [] (suc n) a b h k = absurd (cc)
step_from platform first (l ∷ later) zero a b h k =
    let p : first ≡ a = cc in
    let q : l ≡ b = cc in
    ap (λ (x : List ClassFacts). let s : Step = record { old = side platform x; new = side platform l } in Some s) p ∙ ap (λ (x : List ClassFacts). let s : Step = record { old = side platform a; new = side platform x } in Some s) q
step_from platform first (l ∷ later) (suc n) a b h k = step_from platform l later n a b h k

step_at : (platform : List ClassFacts) (releases : List (List ClassFacts)) (n : ℕ) (a b : List ClassFacts) → slice_get releases n ≡ Some a → slice_get releases (suc n) ≡ Some b
    → slice_get (steps_of (row_of platform releases)) n ≡ Some (record { old = side platform a; new = side platform b })
step_at platform [] n a b h k = absurd (cc)
step_at platform (first ∷ later) n a b h k = step_from platform first later n a b h k

-- the verdict of a step
verdict_of : (steps : List Step) (vs : List Verdict) (n : ℕ) (s : Step) (v : Verdict) → AreVerdicts steps vs → slice_get steps n ≡ Some s → IsVerdict s.old s.new v → slice_get vs n ≡ Some v
verdict_of [] vs n s v h e k = absurd (cc)
verdict_of (t ∷ ts) [] n s v h e k = absurd h
verdict_of (t ∷ ts) (w ∷ ws) zero s v h e k =
    let q : s ≡ t = cc in
    ap Some (verdict_is_one t.old t.new w v h.0 (subst (λ (x : Step). IsVerdict x.old x.new v) q k))
verdict_of (t ∷ ts) (w ∷ ws) (suc n) s v h e k = verdict_of ts ws n s v h.1 e k

-- what the tree of a number is read as, whatever it is called
record IsReadAt (files : List FileOf) (releases : List (List ClassFacts)) (n : ℕ) (root : Bytes) : Type 0 where
  records : List ClassFacts
  at : slice_get releases n ≡ Some records
  are : (name : TreeName) → Gives files (library_at name root) (reads.Library records)

read_at : (files : List FileOf) (first : ℕ) (roots : List Bytes) (releases : List (List ClassFacts)) → GiveAll files (release_trees first roots) (map reads.Library releases) → (n : ℕ) (root : Bytes) → slice_get roots n ≡ Some root → IsReadAt files releases n root
read_at files first [] releases h n root e = absurd (cc)
read_at files first (r ∷ roots) [] h n root e = absurd h
read_at files first (r ∷ roots) (rs ∷ releases) h zero root e =
    let q : r ≡ root = cc in
    record { records = rs; at = refl; are = λ name. subst (λ (x : Bytes). Gives files (library_at name x) (reads.Library rs)) q (gives_to files name (library_at (names.NthRelease first) r) (reads.Library rs) h.0) }
read_at files first (r ∷ roots) (rs ∷ releases) h (suc n) root e =
    let i = read_at files (first + 1) roots releases h.1 n root e in
    record { records = i.records; at = i.at; are = i.are }

-- ---- the laws

module _ (files : List FileOf) (h : HistoryOf) (check : CheckOf) (n : ℕ) (of : IsCheckOfStep h check n) (row : HistoryRecords files h) (two : CheckRecords files check) where
  one_platform : row.platform ≡ two.platform
  one_platform = same_library row.platform two.platform
      (one_given files (library_at names.Platform h.platform) (reads.Library row.platform) (reads.Library two.platform) row.are.0
      (subst (λ (root : Bytes). Gives files (library_at names.Platform root) (reads.Library two.platform)) of.platform two.are.0))

  next : (m : ℕ) → m + 1 ≡ suc m
  next m = omega arith

  before : IsReadAt files row.releases n check.old
  before = read_at files 1 h.releases row.releases row.are.1 n check.old of.old

  after : IsReadAt files row.releases (suc n) check.new
  after = read_at files 1 h.releases row.releases row.are.1 (suc n) check.new (subst (λ m. slice_get h.releases m ≡ Some check.new) (next n) of.new)

  one_side : (name : TreeName) (root : Bytes) (m : Modules) (records there : List ClassFacts) → Gives files (release_tree check.modular name root) (read_as m records) → Gives files (library_at name root) (reads.Library there)
      → side row.platform there ≡ side_in m two.platform records
  one_side name root m records there g k =
      same_side OneModule m row.platform two.platform there records one_platform
      (one_given files (library_at name root) (reads.Library there) (read_as m records) k (subst (λ (b : Bool). Gives files (release_tree b name root) (read_as m records)) of.plain g))

  old_is : side row.platform before.records ≡ old_side two
  old_is = one_side names.Old check.old two.old_modules two.old before.records two.are.1.0 (before.are names.Old)

  new_is : side row.platform after.records ≡ new_side two
  new_is = one_side names.New check.new two.new_modules two.new after.records two.are.1.1.0 (after.are names.New)

  says : SaysAsChecked row two n
  says = record { step = at; verdict = λ vs v are is. verdict_of (steps_of (row_of row.platform row.releases)) vs n (record { old = old_side two; new = new_side two }) v are.exact at is.exact }
    where
      at : slice_get (steps_of (row_of row.platform row.releases)) n ≡ Some (record { old = old_side two; new = new_side two })
      at =
          step_at row.platform row.releases n before.records after.records before.at after.at
          ∙ ap (λ (W : World). let s : Step = record { old = W; new = side row.platform after.records } in Some s) old_is
          ∙ ap (λ (W : World). let s : Step = record { old = old_side two; new = W } in Some s) new_is

pub steps_are_checks : StepsAreChecks
steps_are_checks files h check n of row two = says files h check n of row two

pub steps_are_borne_out : StepsAreBorneOut
steps_are_borne_out files h check n of vs kept report out = (says files h check n of kept.records out.records).verdict vs report.verdict kept.verdicts out.parts.verdict
