-- No two of the witness files of a verdict have one path.
use Rattle.std.proofs.Common.{◌≡◌, ◌≢◌, ◌≤◌, ◌<◌, ◌+◌, ◌^◌, ℕ, true, List, [], ◌∷◌, ◌++◌, map, length, refl, sym, subst, ◌∙◌, All, arith, IsTrue}
use Rattle.std.specs.Str.{is_utf8}
use Rattle.std.proofs.lemmas.List.{length-append, length-map}
use Rattle.std.proofs.lemmas.List.Elements.{All-from_recursion, recursion_from_All}
use Rattle.std.specs.Cmp.{first_so, second_so}
use Rattle.jc_lemmas.proofs.Listed.{EachOf, EachOf-append, EachOf-map}
use Rattle.jc_base.specs.States.{FolderState, Change}
use Rattle.jc_facts.specs.declared.client.ClientClass.{ClientClass}
use Rattle.jc_facts.specs.declared.verdict.Cause.{Cause}
use Rattle.jc_facts.specs.declared.verdict.Cause.TheVariants as cause
use Rattle.jc_facts.specs.declared.verdict.Verdict.{Verdict}
use Rattle.jc_facts.specs.client.Allowed.{is_allowed_name}
use Rattle.jc_facts.specs.Names.{Bytes}
use Rattle.jc_promises.specs.rule.Bases.{allowed}
use Rattle.jc_promises.specs.plan.Planned.{planned}
use Rattle.jc_facts.specs.world.World.{World}
use Rattle.jc_facts.proofs.Apart.{ApartRec}
use Rattle.jc_facts.proofs.Clients.{clients_apart, name_of}
use Rattle.jc_witness.specs.declared.witness.WitnessFile.{WitnessFile}
use Rattle.jc_witness.specs.Witnesses.{IsReadAs, AreReadAs, IsWitnessOf, witness_files}
use Rattle.jc_facts.specs.Verdicts.{count_of}
use Rattle.jc_shown.specs.Witness.{PutFile, PutsFiles, PutsFirst, PutsSome, causes_of, files_from, files_of_cause, put_file, witness_path, witness_puts}
use Rattle.jc_shown.specs.steps.PutFiles.{IsPutWhole, IsPutInPart}
use Rattle.jc_shown.proofs.FilesPut.{all_put, first_put}
use Rattle.jc_shown.proofs.WitnessPaths.{one_name, one_number}

-- ---- the names of a witness

abbrev class_of : WitnessFile → Bytes
class_of f = f.«class»

-- what holds of the names of clients holds of the files that are read as they
of_names : (P : Bytes → Type 0) (fs : List WitnessFile) (cs : List ClientClass) → AreReadAs fs cs → EachOf (λ c. P (name_of c)) cs → EachOf (λ f. P (class_of f)) fs
of_names P [] cs r h = tt
of_names P (f ∷ fs) [] r h = absurd r
of_names P (f ∷ fs) (c ∷ cs) r h = let read : IsReadAs f c = r.0 in (subst P (sym read.name) h.0, of_names P fs cs r.1 h.1)

files_apart : (fs : List WitnessFile) (cs : List ClientClass) → AreReadAs fs cs → ApartRec name_of cs → ApartRec class_of fs
files_apart [] cs r h = tt
files_apart (f ∷ fs) [] r h = absurd r
files_apart (f ∷ fs) (c ∷ cs) r h =
    let read : IsReadAs f c = r.0 in
    (of_names (λ x. class_of f ≢ x) fs cs r.1 (subst (λ (x : Bytes). EachOf (λ d. x ≢ name_of d) cs) (sym read.name) h.0), files_apart fs cs r.1 h.1)

allowed_is_utf8 : (W : World) (x : Bytes) → is_allowed_name W x ≡ true → is_utf8 x ≡ true
unfolding is_allowed_name
allowed_is_utf8 W x h = second_so _ (is_utf8 x) h

module _ (O N : World) (e : Cause) (fs : List WitnessFile) (w : IsWitnessOf O N e fs) where
  pub names_apart : ApartRec class_of fs
  names_apart = files_apart fs (planned O N e) w.shows.read (clients_apart (planned O N e) w.shows.in_scope.differ)

  pub are_utf8 : All (λ f. IsTrue (is_utf8 (class_of f))) fs
  are_utf8 = All-from_recursion (λ f. is_utf8 (class_of f) ≡ true) fs (of_names (λ x. is_utf8 x ≡ true) fs (planned O N e) w.shows.read
      (EachOf-map (λ c a. allowed_is_utf8 O (name_of c) (first_so (is_allowed_name O (name_of c)) _ a)) (planned O N e) (recursion_from_All (λ c. allowed O N (name_of c) ≡ true) (planned O N e) w.shows.allowed_names)))

-- ---- the paths of a verdict's files

abbrev path_of : PutFile → Bytes
path_of f = f.path

-- it is the path of a file with a number from low on and below high
record IsNumbered (dir : Bytes) (low high : ℕ) (f : PutFile) : Type 0 where
  number : ℕ
  name : Bytes
  path : f.path ≡ witness_path dir number name
  from : low ≤ number
  below : number < high

cause_numbered : (dir : Bytes) (n low high : ℕ) (ws : List WitnessFile) → low ≤ n → n < high → EachOf (IsNumbered dir low high) (map (put_file dir n) ws)
cause_numbered dir n low high [] a b = tt
cause_numbered dir n low high (w ∷ ws) a b = (record { number = n; name = class_of w; path = refl; from = a; below = b }, cause_numbered dir n low high ws a b)

numbered : (dir : Bytes) (O N : World) (n low high : ℕ) (es : List Cause) → low ≤ n → n + length es ≤ high → EachOf (IsNumbered dir low high) (files_from dir O N n es)
numbered dir O N n low high [] a b = tt
numbered dir O N n low high (e ∷ es) a b =
    EachOf-append (IsNumbered dir low high) (files_of_cause dir O N n e) (files_from dir O N (n + 1) es) (cause_numbered dir n low high (witness_files O N e) a (omega (arith, b)))
    (numbered dir O N (n + 1) low high es (omega (arith, a)) (omega (arith, b)))

-- files of another number have other paths
others_apart : (dir : Bytes) (n high : ℕ) (x : Bytes) (fs : List PutFile) → high ≤ 10 ^ 6 → n < high → EachOf (IsNumbered dir (n + 1) high) fs → EachOf (λ f. witness_path dir n x ≢ path_of f) fs
others_apart dir n high x [] a b h = tt
others_apart dir n high x (f ∷ fs) a b h =
    let k : IsNumbered dir (n + 1) high f = h.0 in
    (λ is. omega (arith, k.from, one_number dir n k.number x k.name (omega (arith, a, b)) (omega (arith, a, k.below)) (is ∙ k.path)), others_apart dir n high x fs a b h.1)

cause_before : (dir : Bytes) (n high : ℕ) (ws : List WitnessFile) (fs : List PutFile) → high ≤ 10 ^ 6 → n < high → EachOf (IsNumbered dir (n + 1) high) fs
    → EachOf (λ g. EachOf (λ f. path_of g ≢ path_of f) fs) (map (put_file dir n) ws)
cause_before dir n high [] fs a b h = tt
cause_before dir n high (w ∷ ws) fs a b h = (others_apart dir n high (class_of w) fs a b h, cause_before dir n high ws fs a b h)

cause_apart : (dir : Bytes) (n : ℕ) (ws : List WitnessFile) → ApartRec class_of ws → ApartRec path_of (map (put_file dir n) ws)
cause_apart dir n [] h = tt
cause_apart dir n (w ∷ ws) h = (later ws h.0, cause_apart dir n ws h.1)
  where
    later : (vs : List WitnessFile) → EachOf (λ v. class_of w ≢ class_of v) vs → EachOf (λ f. witness_path dir n (class_of w) ≢ path_of f) (map (put_file dir n) vs)
    later [] k = tt
    later (v ∷ vs) k = ((λ is. k.0 (one_name dir n (class_of w) (class_of v) is)), later vs k.1)

apart-append : (xs ys : List PutFile) → ApartRec path_of xs → ApartRec path_of ys → EachOf (λ x. EachOf (λ y. path_of x ≢ path_of y) ys) xs → ApartRec path_of (xs ++ ys)
apart-append [] ys a b h = b
apart-append (x ∷ xs) ys a b h = (EachOf-append (λ y. path_of x ≢ path_of y) xs ys a.0 h.0, apart-append xs ys a.1 b h.1)

paths_apart : (dir : Bytes) (O N : World) (n : ℕ) (es : List Cause) → n + length es ≤ 10 ^ 6 → EachOf (λ e. ApartRec class_of (witness_files O N e)) es → ApartRec path_of (files_from dir O N n es)
paths_apart dir O N n [] few h = tt
paths_apart dir O N n (e ∷ es) few h =
    apart-append (files_of_cause dir O N n e) (files_from dir O N (n + 1) es) (cause_apart dir n (witness_files O N e) h.0) (paths_apart dir O N (n + 1) es (omega (arith, few)) h.1)
    (cause_before dir n (n + 1 + length es) (witness_files O N e) (files_from dir O N (n + 1) es) (omega (arith, few)) (omega arith) (numbered dir O N (n + 1) (n + 1) (n + 1 + length es) es (omega arith) (omega arith)))

module _ (dir : Bytes) (O N : World) (v : Verdict) (few : count_of v ≤ 999999) (shown : All (λ e. IsWitnessOf O N e (witness_files O N e)) (causes_of v)) where
  all_apart : ApartRec path_of (witness_puts dir O N v)
  all_apart =
      paths_apart dir O N 1 (causes_of v)
      (omega (arith, few, length-append (map cause.Finding v.findings) (map cause.Collision v.collisions), length-map v.findings cause.Finding, length-map v.collisions cause.Collision))
      (EachOf-map (λ e w. names_apart O N e (witness_files O N e) w) (causes_of v) (recursion_from_All (λ e. IsWitnessOf O N e (witness_files O N e)) (causes_of v) shown))

  pub puts_files : (folder : Change FolderState) → IsPutWhole (witness_puts dir O N v) folder → PutsFiles folder (witness_puts dir O N v)
  puts_files folder h = all_put (witness_puts dir O N v) folder.before.content folder.after.content all_apart h

  pub puts_some : (folder : Change FolderState) → IsPutInPart (witness_puts dir O N v) folder → PutsSome folder (witness_puts dir O N v)
  puts_some folder h = (
    length h.front,
    subst (λ (fs : List PutFile). PutsFirst (length h.front) fs folder) (sym h.whole)
        (first_put h.front h.rest folder.before.content folder.after.content (subst (ApartRec path_of) h.whole all_apart) h.held),
  )
