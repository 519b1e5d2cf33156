-- Steps of the loops that read several things.
use Rattle.std.proofs.Common.{◌≡◌, ℕ, suc, ◌-◌, ◌<◌, List, [], ◌∷◌, ◌++◌, Some, None, refl, sym, ap, ◌∙◌, append_assoc, arith}
use Rattle.std.proofs.lemmas.List.{append-nil}
use Rattle.jc_desc.specs.Reading.{◌>>=◌}
use Rattle.jc_sig.specs.Trees.{Parts, no_parts, part, PartTree, Arguments, no_arguments, argument, ArgumentTree}
use Rattle.jc_sig.specs.Reading.{Read, ReadType, behind, name_before, package_from, argument_from, list_from, part_from, parts_from}
use Rattle.jc_sig.specs.Views.{arguments_of, parts_of}

-- ---- the names of a package

abbrev pub with_names : List (List ℕ) → List (List ℕ) × List ℕ → List (List ℕ) × List ℕ
with_names front x = (front ++ x.0, x.1)

pub names_more : (front : List (List ℕ)) (n m : ℕ) (bytes name next : List ℕ) (total : List (List ℕ) × List ℕ) → n ≡ suc m → name_before 47 bytes ≡ Some (name, next)
    → with_names front (package_from n bytes) ≡ total → with_names (front ++ name ∷ []) (package_from m next) ≡ total
unfolding package_from
names_more front n m bytes name next total k r h =
    let one : with_names front (package_from n bytes) ≡ with_names (front ++ name ∷ []) (package_from m next) = rw (k, r) (ap (λ (ns : List (List ℕ)). (ns, (package_from m next).1)) (sym (append_assoc front (name ∷ []) (package_from m next).0))) in
    sym one ∙ h

pub names_end : (front : List (List ℕ)) (n : ℕ) (bytes : List ℕ) (total : List (List ℕ) × List ℕ) → 0 < n → name_before 47 bytes ≡ None → with_names front (package_from n bytes) ≡ total → (front, bytes) ≡ total
unfolding package_from
names_end front n bytes total k r h =
    let e : n ≡ suc (n - 1) = omega arith in
    let one : with_names front (package_from n bytes) ≡ (front, bytes) = rw (e, r) (ap (λ (ns : List (List ℕ)). (ns, bytes)) (append-nil front)) in
    sym one ∙ h

pub names_out : (front : List (List ℕ)) (n : ℕ) (bytes : List ℕ) (total : List (List ℕ) × List ℕ) → n ≡ 0 → with_names front (package_from n bytes) ≡ total → (front, bytes) ≡ total
unfolding package_from
names_out front n bytes total k h =
    let one : with_names front (package_from n bytes) ≡ (front, bytes) = rw k (ap (λ (ns : List (List ℕ)). (ns, bytes)) (append-nil front)) in
    sym one ∙ h

-- ---- arguments and parts

abbrev pub args_before : List ArgumentTree → Arguments → Arguments
args_before [] rest = rest
args_before (a ∷ args) rest = argument a (args_before args rest)

args_all : (args : List ArgumentTree) → args_before args no_arguments ≡ arguments_of args
args_all [] = refl
args_all (a ∷ args) = ap (λ (xs : Arguments). argument a xs) (args_all args)

args_push : (args : List ArgumentTree) (a : ArgumentTree) (rest : Arguments) → args_before args (argument a rest) ≡ args_before (args ++ a ∷ []) rest
args_push [] a rest = refl
args_push (b ∷ args) a rest = ap (λ (xs : Arguments). argument b xs) (args_push args a rest)

abbrev pub with_args : List ArgumentTree → Read Arguments → Read Arguments
with_args front read = read >>= λ x. Some (args_before front x.0, x.1)

args_regroup : (front : List ArgumentTree) (a : ArgumentTree) (read : Read Arguments) → with_args front (read >>= λ y. Some (argument a y.0, y.1)) ≡ with_args (front ++ a ∷ []) read
args_regroup front a None = refl
args_regroup front a (Some y) = ap (λ (xs : Arguments). Some (xs, y.1)) (args_push front a y.0)

module _ (type : ReadType) (front : List ArgumentTree) (n : ℕ) (bytes : List ℕ) (total : Read Arguments) where
  pub list_more : (m : ℕ) (a : ArgumentTree) (next : List ℕ) → n ≡ suc m → behind 62 bytes ≡ None → argument_from type bytes ≡ Some (a, next)
      → with_args front (list_from type n bytes) ≡ total → with_args (front ++ a ∷ []) (list_from type m next) ≡ total
  unfolding list_from
  list_more m a next k c r h =
      let one : with_args front (list_from type n bytes) ≡ with_args (front ++ a ∷ []) (list_from type m next) = rw (k, c, r) (args_regroup front a (list_from type m next)) in
      sym one ∙ h

  pub list_close : (rest : List ℕ) → 0 < n → behind 62 bytes ≡ Some rest → with_args front (list_from type n bytes) ≡ total → Some (arguments_of front, rest) ≡ total
  unfolding list_from
  list_close rest k c h =
      let e : n ≡ suc (n - 1) = omega arith in
      let one : with_args front (list_from type n bytes) ≡ Some (arguments_of front, rest) = rw (e, c) (ap (λ (xs : Arguments). Some (xs, rest)) (args_all front)) in
      sym one ∙ h

  pub list_bad : 0 < n → behind 62 bytes ≡ None → argument_from type bytes ≡ None → with_args front (list_from type n bytes) ≡ total → None ≡ total
  unfolding list_from
  list_bad k c r h =
      let e : n ≡ suc (n - 1) = omega arith in
      let one : with_args front (list_from type n bytes) ≡ None = rw (e, c, r) refl in
      sym one ∙ h

  pub list_out : n ≡ 0 → with_args front (list_from type n bytes) ≡ total → None ≡ total
  unfolding list_from
  list_out k h = let one : with_args front (list_from type n bytes) ≡ None = rw k refl in sym one ∙ h

abbrev pub parts_before : List PartTree → Parts → Parts
parts_before [] rest = rest
parts_before (p ∷ ps) rest = part p (parts_before ps rest)

parts_all : (ps : List PartTree) → parts_before ps no_parts ≡ parts_of ps
parts_all [] = refl
parts_all (p ∷ ps) = ap (λ (xs : Parts). part p xs) (parts_all ps)

parts_push : (ps : List PartTree) (p : PartTree) (rest : Parts) → parts_before ps (part p rest) ≡ parts_before (ps ++ p ∷ []) rest
parts_push [] p rest = refl
parts_push (q ∷ ps) p rest = ap (λ (xs : Parts). part q xs) (parts_push ps p rest)

abbrev pub with_parts : List PartTree → Read Parts → Read Parts
with_parts front read = read >>= λ x. Some (parts_before front x.0, x.1)

parts_regroup : (front : List PartTree) (p : PartTree) (read : Read Parts) → with_parts front (read >>= λ y. Some (part p y.0, y.1)) ≡ with_parts (front ++ p ∷ []) read
parts_regroup front p None = refl
parts_regroup front p (Some y) = ap (λ (xs : Parts). Some (xs, y.1)) (parts_push front p y.0)

module _ (type : ReadType) (front : List PartTree) (n : ℕ) (bytes : List ℕ) (total : Read Parts) where
  pub parts_more : (m : ℕ) (p : PartTree) (next rest : List ℕ) → n ≡ suc m → part_from type bytes ≡ Some (p, next) → behind 46 next ≡ Some rest
      → with_parts front (parts_from type n bytes) ≡ total → with_parts (front ++ p ∷ []) (parts_from type m rest) ≡ total
  unfolding parts_from
  parts_more m p next rest k r c h =
      let one : with_parts front (parts_from type n bytes) ≡ with_parts (front ++ p ∷ []) (parts_from type m rest) = rw (k, r, c) (parts_regroup front p (parts_from type m rest)) in
      sym one ∙ h

  pub parts_last : (p : PartTree) (next : List ℕ) → 0 < n → part_from type bytes ≡ Some (p, next) → behind 46 next ≡ None → with_parts front (parts_from type n bytes) ≡ total → Some (parts_of (front ++ p ∷ []), next) ≡ total
  unfolding parts_from
  parts_last p next k r c h =
      let e : n ≡ suc (n - 1) = omega arith in
      let last : parts_before front (part p no_parts) ≡ parts_of (front ++ p ∷ []) = parts_push front p no_parts ∙ parts_all (front ++ p ∷ []) in
      let one : with_parts front (parts_from type n bytes) ≡ Some (parts_of (front ++ p ∷ []), next) = rw (e, r, c) (ap (λ (xs : Parts). Some (xs, next)) last) in
      sym one ∙ h

  pub parts_bad : 0 < n → part_from type bytes ≡ None → with_parts front (parts_from type n bytes) ≡ total → None ≡ total
  unfolding parts_from
  parts_bad k r h =
      let e : n ≡ suc (n - 1) = omega arith in
      let one : with_parts front (parts_from type n bytes) ≡ None = rw (e, r) refl in
      sym one ∙ h

  pub parts_out : n ≡ 0 → with_parts front (parts_from type n bytes) ≡ total → None ≡ total
  unfolding parts_from
  parts_out k h = let one : with_parts front (parts_from type n bytes) ≡ None = rw k refl in sym one ∙ h
