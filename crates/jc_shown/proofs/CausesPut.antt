-- The files of causes, put one cause after the other.
use Rattle.std.proofs.Common.{◌≡◌, ◌≤◌, ◌<◌, ◌+◌, ℕ, suc, List, [], ◌∷◌, ◌++◌, map, length, drop, get_or, refl, sym, ap, subst, ◌∙◌, append_assoc, arith}
use Rattle.std.proofs.lemmas.List.{append-nil, length-map}
use Rattle.jc_base.specs.States.{FolderState, Change}
use Rattle.jc_facts.specs.declared.verdict.Cause.{Cause}
use Rattle.jc_facts.specs.declared.verdict.Cause.TheVariants as cause
use Rattle.jc_facts.specs.declared.verdict.Verdict.{Verdict}
use Rattle.jc_facts.specs.Names.{Bytes}
use Rattle.jc_facts.specs.world.World.{World}
use Rattle.jc_shown.specs.Witness.{PutFile, files_from, files_of_cause, witness_puts}
use Rattle.jc_shown.specs.steps.PutFiles.{IsPutWhole, IsPutInPart}
use Rattle.jc_shown.proofs.FilesPut.{IsPut, next_left, put_nothing, put_more, put_all, put_failed}

abbrev from_to : FolderState → FolderState → Change FolderState
from_to a b = record { before = a; after = b }

-- of causes that are made of a list, all are to come
pub no_cause : {A : Type 0} (make : A → Cause) (dir : Bytes) (O N : World) (first : ℕ) (xs : List A) (a : FolderState)
    → IsPut (files_from dir O N (first + 0) (map make xs)) (files_from dir O N first (map make xs)) a a
no_cause make dir O N first xs a =
    let same_number : first + 0 ≡ first = omega arith in
    subst (λ n. IsPut (files_from dir O N n (map make xs)) (files_from dir O N first (map make xs)) a a) (sym same_number) (put_nothing (files_from dir O N first (map make xs)) a)

-- of causes that are made of a list, the next element's files come next
pub next_cause : {A : Type 0} (make : A → Cause) (dir : Bytes) (O N : World) (first : ℕ) (xs : List A) (i : ℕ) (x : A) (all : List PutFile) (a b : FolderState) → i < length xs → x ≡ get_or xs i x
    → IsPut (files_from dir O N (first + i) (map make (drop i xs))) all a b
    → IsPut (files_of_cause dir O N (first + i) (make x) ++ files_from dir O N (first + (i + 1)) (map make (drop (i + 1) xs))) all a b
next_cause make dir O N first xs i x all a b lt is h =
    let next : first + i + 1 ≡ first + (i + 1) = omega arith in
    subst (λ n. IsPut (files_of_cause dir O N (first + i) (make x) ++ files_from dir O N n (map make (drop (i + 1) xs))) all a b) next
    (next_left (λ ys. files_from dir O N (first + i) (map make ys)) xs i x all a b lt is h)

-- those of one list of causes, and of another after it
files_from-append : (dir : Bytes) (O N : World) (n : ℕ) (es ds : List Cause) → files_from dir O N n (es ++ ds) ≡ files_from dir O N n es ++ files_from dir O N (n + length es) ds
files_from-append dir O N n [] ds = let same_number : n + 0 ≡ n = omega arith in rw same_number refl
files_from-append dir O N n (e ∷ es) ds =
    let next : n + 1 + length es ≡ n + suc (length es) = omega arith in
    ap (λ (fs : List PutFile). files_of_cause dir O N n e ++ fs) (files_from-append dir O N (n + 1) es ds ∙ ap (λ m. files_from dir O N (n + 1) es ++ files_from dir O N m ds) next)
    ∙ sym (append_assoc (files_of_cause dir O N n e) (files_from dir O N (n + 1) es) (files_from dir O N (n + suc (length es)) ds))

module _ (dir : Bytes) (O N : World) (v : Verdict) where
  abbrev findings : List PutFile
  findings = files_from dir O N 1 (map cause.Finding v.findings)

  abbrev collisions : List PutFile
  collisions = files_from dir O N (length v.findings + 1) (map cause.Collision v.collisions)

  -- the files of a verdict are those of its findings, and then those of its collisions
  parts : witness_puts dir O N v ≡ findings ++ collisions
  parts =
      let next : 1 + length (map cause.Finding v.findings) ≡ length v.findings + 1 = omega (arith, length-map v.findings cause.Finding) in
      files_from-append dir O N 1 (map cause.Finding v.findings) (map cause.Collision v.collisions)
      ∙ ap (λ n. files_from dir O N 1 (map cause.Finding v.findings) ++ files_from dir O N n (map cause.Collision v.collisions)) next

  module _ (a b : FolderState) where
    -- no finding's witness is put
    start : IsPut (findings ++ collisions) (witness_puts dir O N v) a a
    start = subst (λ (fs : List PutFile). IsPut fs (witness_puts dir O N v) a a) parts (put_nothing (witness_puts dir O N v) a)

    pub findings_failed : IsPutInPart findings (from_to a b) → IsPutInPart (witness_puts dir O N v) (from_to a b)
    findings_failed h = put_failed a a b findings collisions (witness_puts dir O N v) start h

    module _ (c : FolderState) (first : IsPutWhole findings (from_to a b)) (le : a.faults ≤ b.faults) where
      -- those of all findings are
      then_collisions : IsPut collisions (witness_puts dir O N v) a b
      then_collisions = put_more a a b findings collisions (witness_puts dir O N v) start first le

      ending : IsPut (collisions ++ []) (witness_puts dir O N v) a b
      ending = subst (λ (fs : List PutFile). IsPut fs (witness_puts dir O N v) a b) (sym (append-nil collisions)) then_collisions

      pub collisions_put : IsPutWhole collisions (from_to b c) → b.faults ≤ c.faults → IsPutWhole (witness_puts dir O N v) (from_to a c)
      collisions_put h more = put_all a c (witness_puts dir O N v) (put_more a b c collisions [] (witness_puts dir O N v) ending h more)

      pub collisions_failed : IsPutInPart collisions (from_to b c) → IsPutInPart (witness_puts dir O N v) (from_to a c)
      collisions_failed h = put_failed a b c collisions [] (witness_puts dir O N v) ending h
