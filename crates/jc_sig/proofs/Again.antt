-- The text of a type of the grammar is read as it, whatever follows.
use Rattle.std.proofs.Common.{◌≡◌, ℕ, suc, zero, ◌≤◌, ◌<◌, true, false, List, [], ◌∷◌, ◌++◌, length, Some, None, refl, ap, ◌∙◌, append_assoc, arith}
use Rattle.std.proofs.lemmas.List.{append-nil, length-append}
use Rattle.jc_sig.specs.Trees.{TypeTree, base, variable, array, class, class_tree, Parts, no_parts, part, PartTree, part_tree, Arguments, no_arguments, argument, ArgumentTree, any, exact, upper, lower, package_text, type_text, parts_text, members_text, part_text, arguments_text, list_text, argument_text}
use Rattle.jc_sig.specs.Grammar.{is_identifier, is_reference, has_parts, IsType, IsClass, AreParts, IsPart, AreArguments, IsArgument}
use Rattle.jc_sig.specs.Reading.{Read, ReadType, behind, name_before, reference_from, exact_from, argument_from, list_from, arguments_from, part_from, parts_from, class_behind, class_from, type_by, type_from}
use Rattle.jc_sig.proofs.Pieces.{stops, name_again, name_before_again, not_before, package_again}
use Rattle.jc_sig.proofs.Sound.{IsReference}

-- the text of what is so is read as it, whatever follows
abbrev pub Again : {A : Type 0} → (A → Type 0) → (A → List ℕ) → (List ℕ → Read A) → Type 0
Again {A} P text read = (x : A) (rest : List ℕ) → P x → read (text x ++ rest) ≡ Some (x, rest)

-- ---- how many there are, and how long texts are

count : Arguments → ℕ
count no_arguments = 0
count (argument a args) = suc (count args)

pub some_type : (t : TypeTree) → 0 < length (type_text t)
some_type (base letter) = omega arith
some_type (variable name) = let q : 0 < suc (length (name ++ 59 ∷ [])) = omega arith in q
some_type (array t) = let q : 0 < suc (length (type_text t)) = omega arith in q
some_type (class (class_tree names ps)) = let q : 0 < suc (length (package_text names ++ (parts_text ps ++ 59 ∷ []))) = omega arith in q

some_argument : (a : ArgumentTree) → 0 < length (argument_text a)
some_argument any = omega arith
some_argument (exact t) = some_type t
some_argument (upper t) = let q : 0 < suc (length (type_text t)) = omega arith in q
some_argument (lower t) = let q : 0 < suc (length (type_text t)) = omega arith in q

count_fits : (args : Arguments) → count args ≤ length (list_text args)
unfolding count
count_fits no_arguments = omega arith
count_fits (argument a args) = omega (arith, length-append (argument_text a) (list_text args), some_argument a, count_fits args)

parts_count : Parts → ℕ
parts_count no_parts = 0
parts_count (part p ps) = suc (parts_count ps)

members_fit : (ps : Parts) → parts_count ps ≤ length (members_text ps)
unfolding parts_count
members_fit no_parts = omega arith
members_fit (part p ps) = let q : suc (parts_count ps) ≤ suc (length (part_text p ++ members_text ps)) = omega (arith, length-append (part_text p) (members_text ps), members_fit ps) in q

parts_fit : (ps : Parts) → parts_count ps ≤ suc (length (parts_text ps))
unfolding parts_count
parts_fit no_parts = omega arith
parts_fit (part p ps) = let q : suc (parts_count ps) ≤ suc (length (part_text p ++ members_text ps)) = omega (arith, length-append (part_text p) (members_text ps), members_fit ps) in q

names_fit : (names : List (List ℕ)) → length names ≤ length (package_text names)
names_fit [] = omega arith
names_fit (name ∷ names) = omega (arith, length-append name (47 ∷ package_text names), names_fit names)

-- ---- what follows a name and a part

-- no name goes on, no arguments begin
pub record Follows (rest : List ℕ) : Type 0 where
  pub ended : stops rest ≡ true
  pub unopened : behind 60 rest ≡ None

arguments_stop : (args : Arguments) (rest : List ℕ) → stops rest ≡ true → stops (arguments_text args ++ rest) ≡ true
arguments_stop no_arguments rest h = h
arguments_stop (argument a args) rest h = refl

-- behind the name of the first part
no_slash : (args : Arguments) (ps : Parts) (rest : List ℕ) → (stops (arguments_text args ++ (members_text ps ++ 59 ∷ rest)) ≡ true) × (behind 47 (arguments_text args ++ (members_text ps ++ 59 ∷ rest)) ≡ None) × (behind 58 (arguments_text args ++ (members_text ps ++ 59 ∷ rest)) ≡ None)
no_slash no_arguments no_parts rest = (refl, refl, refl)
no_slash no_arguments (part p ps) rest = (refl, refl, refl)
no_slash (argument a args) ps rest = (refl, refl, refl)

-- the first part's name, and what is behind it
abbrev pub FirstName : List ℕ → Type 0
FirstName bytes = (name : List ℕ) × (more : List ℕ) × (is_identifier name ≡ true) × (bytes ≡ name ++ more) × (stops more ≡ true) × (behind 47 more ≡ None) × (behind 58 more ≡ None)

pub first_name : (n : ℕ) (ps : Parts) (rest : List ℕ) → has_parts ps ≡ true → AreParts n ps → FirstName (parts_text ps ++ 59 ∷ rest)
first_name n no_parts rest h k = absurd cc
first_name n (part (part_tree name args) ps) rest h k =
    let s = no_slash args ps rest in
    (name, arguments_text args ++ (members_text ps ++ 59 ∷ rest), k.0.0, simp append_assoc, s.0, s.1, s.2)

module _ (n : ℕ) (type : ReadType) (again : Again (IsType n) type_text type) where
  pub reference_again : Again (IsReference n) type_text (reference_from type)
  unfolding reference_from
  reference_again t rest h = rw (again t rest h.1, h.0) refl

  exact_start : (t : TypeTree) (rest : List ℕ) → is_reference t ≡ true → argument_from type (type_text t ++ rest) ≡ exact_from type (type_text t ++ rest)
  unfolding argument_from
  exact_start (base letter) rest h = absurd cc
  exact_start (variable name) rest h = refl
  exact_start (array t) rest h = refl
  exact_start (class (class_tree names ps)) rest h = refl

  argument_again : Again (IsArgument n) argument_text (argument_from type)
  unfolding argument_from
  argument_again any rest h = refl
  argument_again (exact t) rest h = exact_start t rest h.0 ∙ rw (reference_again t rest h) refl
  argument_again (upper t) rest h = rw (reference_again t rest h) refl
  argument_again (lower t) rest h = rw (reference_again t rest h) refl

  not_close : (a : ArgumentTree) (rest : List ℕ) → IsArgument n a → behind 62 (argument_text a ++ rest) ≡ None
  not_close any rest h = refl
  not_close (upper t) rest h = refl
  not_close (lower t) rest h = refl
  not_close (exact (base letter)) rest h = absurd (let q : false ≡ true = h.0 in cc)
  not_close (exact (variable name)) rest h = refl
  not_close (exact (array t)) rest h = refl
  not_close (exact (class (class_tree names ps))) rest h = refl

  list_again : (args : Arguments) (m : ℕ) (rest : List ℕ) → count args < m → AreArguments n args → list_from type m (list_text args ++ 62 ∷ rest) ≡ Some (args, rest)
  unfolding list_from count
  list_again no_arguments zero rest l h = absurd (omega arith)
  list_again (argument a args) zero rest l h = absurd (omega arith)
  list_again no_arguments (suc m) rest l h = refl
  list_again (argument a args) (suc m) rest l h =
      let after : List ℕ = list_text args ++ 62 ∷ rest in
      let ih = list_again args m rest (let k : suc (count args) < suc m = l in omega arith) h.1 in
      let here : list_from type (suc m) (argument_text a ++ after) ≡ Some (argument a args, rest) = rw (not_close a after h.0, argument_again a after h.0, ih) refl in
      ap (λ (bs : List ℕ). list_from type (suc m) bs) (append_assoc (argument_text a) (list_text args) (62 ∷ rest)) ∙ here

  arguments_again : (args : Arguments) (rest : List ℕ) → AreArguments n args → behind 60 rest ≡ None → arguments_from type (arguments_text args ++ rest) ≡ Some (args, rest)
  unfolding arguments_from
  arguments_again no_arguments rest h c = rw c refl
  arguments_again (argument a args) rest h c =
      let all : Arguments = argument a args in
      let text : List ℕ = list_text all ++ 62 ∷ rest in
      let same : (argument_text a ++ (list_text args ++ 62 ∷ [])) ++ rest ≡ text = simp append_assoc in
      let few : count all < length text = omega (arith, length-append (list_text all) (62 ∷ rest), count_fits all) in
      let read = list_again all (length text) rest few h in
      let here : arguments_from type (60 ∷ text) ≡ Some (all, rest) = rw read refl in
      ap (λ (bs : List ℕ). arguments_from type (60 ∷ bs)) same ∙ here

  part_again : (p : PartTree) (rest : List ℕ) → IsPart n p → Follows rest → part_from type (part_text p ++ rest) ≡ Some (p, rest)
  unfolding part_from
  part_again (part_tree name args) rest h f =
      let name_read = name_again name (arguments_text args ++ rest) h.0 (arguments_stop args rest f.ended) in
      let here : part_from type (name ++ (arguments_text args ++ rest)) ≡ Some (part_tree name args, rest) = rw (name_read, arguments_again args rest h.1 f.unopened) refl in
      ap (λ (bs : List ℕ). part_from type bs) (append_assoc name (arguments_text args) rest) ∙ here

  parts_again : (ps : Parts) (m : ℕ) (rest : List ℕ) → parts_count ps ≤ m → has_parts ps ≡ true → AreParts n ps → Follows rest → behind 46 rest ≡ None → parts_from type m (parts_text ps ++ rest) ≡ Some (ps, rest)
  unfolding parts_from parts_count
  parts_again no_parts m rest l s h f c = absurd cc
  parts_again (part p ps) zero rest l s h f c = absurd (omega arith)
  parts_again (part p no_parts) (suc m) rest l s h f c =
      let here : parts_from type (suc m) (part_text p ++ rest) ≡ Some (part p no_parts, rest) = rw (part_again p rest h.0 f, c) refl in
      ap (λ (bs : List ℕ). parts_from type (suc m) (bs ++ rest)) (append-nil (part_text p)) ∙ here
  parts_again (part p (part q qs)) (suc m) rest l s h f c =
      let others : Parts = part q qs in
      let ih = parts_again (part q qs) m rest (let k : suc (parts_count others) ≤ suc m = l in omega arith) refl h.1 f c in
      let dot : Follows (46 ∷ (parts_text others ++ rest)) = record { ended = refl; unopened = refl } in
      let here : parts_from type (suc m) (part_text p ++ 46 ∷ (parts_text others ++ rest)) ≡ Some (part p others, rest) = rw (part_again p (46 ∷ (parts_text others ++ rest)) h.0 dot, ih) refl in
      ap (λ (bs : List ℕ). parts_from type (suc m) bs) (append_assoc (part_text p) (46 ∷ parts_text others) rest) ∙ here

  no_package : (ps : Parts) (rest : List ℕ) → has_parts ps ≡ true → AreParts n ps → name_before 47 (parts_text ps ++ 59 ∷ rest) ≡ None
  no_package ps rest s h =
      let f = first_name n ps rest s h in
      ap (λ (bs : List ℕ). name_before 47 bs) f.3 ∙ not_before 47 f.0 f.1 f.2 f.4 f.5

  class_again : (names : List (List ℕ)) (ps : Parts) (rest : List ℕ) → IsClass n (class_tree names ps) → class_from type ((package_text names ++ (parts_text ps ++ 59 ∷ [])) ++ rest) ≡ Some (class_tree names ps, rest)
  unfolding class_from
  class_again names ps rest h =
      let tail : List ℕ = parts_text ps ++ 59 ∷ rest in
      let text : List ℕ = package_text names ++ tail in
      let same : (package_text names ++ (parts_text ps ++ 59 ∷ [])) ++ rest ≡ text = simp append_assoc in
      let few : length names < length text = omega (arith, length-append (package_text names) tail, length-append (parts_text ps) (59 ∷ rest), names_fit names) in
      let enough : parts_count ps ≤ length tail = omega (arith, length-append (parts_text ps) (59 ∷ rest), parts_fit ps) in
      let front = package_again (length text) names tail few h.0 (no_package ps rest h.1 h.2) in
      let end : Follows (59 ∷ rest) = record { ended = refl; unopened = refl } in
      let read = parts_again ps (length tail) (59 ∷ rest) enough h.1 h.2 end refl in
      let behind_it : class_behind type (names, tail) ≡ Some (class_tree names ps, rest) = rw read refl in
      ap (λ (bs : List ℕ). class_from type bs) same ∙ ap (λ (x : List (List ℕ) × List ℕ). class_behind type x) front ∙ behind_it

  by_again : (t : TypeTree) (rest : List ℕ) → IsType (suc n) t → type_by type (type_text t ++ rest) ≡ Some (t, rest)
  by_again (base letter) rest h = rw h refl
  by_again (variable name) rest h =
      let here : type_by type (84 ∷ (name ++ 59 ∷ rest)) ≡ Some (variable name, rest) = rw (name_before_again 59 name rest h refl refl) refl in
      ap (λ (bs : List ℕ). type_by type (84 ∷ bs)) (append_assoc name (59 ∷ []) rest) ∙ here
  by_again (array t) rest h = rw (again t rest h) refl
  by_again (class (class_tree names ps)) rest h = rw (class_again names ps rest h) refl

pub type_again : (n : ℕ) → Again (IsType n) type_text (type_from n)
unfolding type_from
type_again zero t rest h = absurd h
type_again (suc n) t rest h = by_again n (type_from n) (type_again n) t rest h
