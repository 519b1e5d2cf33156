-- What is read as a type stands there, and is of the grammar.
use Rattle.std.proofs.Common.{◌≡◌, ℕ, suc, zero, cond, nat_eq, List, [], ◌∷◌, ◌++◌, length, Option, Some, None, refl, sym, ap, subst, ◌∙◌, inl, inr, append_assoc, IsTrue}
use Rattle.std.proofs.lemmas.Bool.{eqb-true}
use Rattle.std.proofs.lemmas.List.{append-nil}
use Rattle.jc_desc.specs.Reading.{◌>>=◌}
use Rattle.jc_desc.proofs.Grammar.{bind_some, chosen}
use Rattle.jc_sig.specs.Trees.{TypeTree, base, variable, array, class, ClassTree, class_tree, Parts, no_parts, part, PartTree, part_tree, Arguments, no_arguments, argument, ArgumentTree, any, exact, upper, lower, package_text, type_text, class_text, parts_text, members_text, part_text, arguments_text, list_text, argument_text}
use Rattle.jc_sig.specs.Grammar.{is_base, is_reference, has_parts, IsType, IsClass, AreParts, IsPart, AreArguments, IsArgument}
use Rattle.jc_sig.specs.Reading.{Read, ReadType, behind, name_from, name_before, package_from, reference_from, exact_from, upper_from, lower_from, argument_from, ended_or, list_from, some_arguments, arguments_behind, arguments_from, part_from, parts_behind, parts_from, class_from, variable_from, array_from, class_type_from, type_by, type_from}
use Rattle.jc_sig.proofs.Pieces.{behind_is, name_is, name_before_is, package_is}

-- it is so, and the bytes are its text and the rest
abbrev pub At : {A : Type 0} → (A → Type 0) → (A → List ℕ) → List ℕ → A × List ℕ → Type 0
At P text bytes x = P x.0 × (bytes ≡ text x.0 ++ x.1)

-- whatever is read is so
abbrev pub Sound : {A : Type 0} → (A → Type 0) → (A → List ℕ) → (List ℕ → Read A) → Type 0
Sound {A} P text read = (bytes : List ℕ) (x : A × List ℕ) → read bytes ≡ Some x → At P text bytes x

-- a type that isn't primitive
abbrev pub IsReference : ℕ → TypeTree → Type 0
IsReference n t = IsTrue (is_reference t) × IsType n t

-- arguments and the > behind them
abbrev ListAt : ℕ → List ℕ → Arguments × List ℕ → Type 0
ListAt n bytes x = AreArguments n x.0 × (bytes ≡ list_text x.0 ++ 62 ∷ x.1)

abbrev AreSomeParts : ℕ → Parts → Type 0
AreSomeParts n ps = IsTrue (has_parts ps) × AreParts n ps

abbrev more_list : ReadType → ℕ → List ℕ → Read Arguments
more_list type m bytes = argument_from type bytes >>= λ a. list_from type m a.1 >>= λ more. Some (argument a.0 more.0, more.1)

pub members : (ps : Parts) → IsTrue (has_parts ps) → members_text ps ≡ 46 ∷ parts_text ps
members no_parts h = absurd cc
members (part p ps) h = refl

module _ (n : ℕ) (type : ReadType) (is : Sound (IsType n) type_text type) where
  pub reference_is : Sound (IsReference n) type_text (reference_from type)
  unfolding reference_from
  reference_is bytes x e =
      let a = bind_some (type bytes) (λ (t : TypeTree × List ℕ). cond (is_reference t.0) (Some t) None) x e in
      elim (chosen (is_reference a.0.0) _ _ _ a.2) [
        | inl b ↦
            let q : a.0 ≡ x = (let g = b.1 in cc) in
            let t = is bytes a.0 a.1 in
            subst (At (IsReference n) type_text bytes) q ((b.0, t.0), t.1)
        | inr b ↦ absurd (let q : None ≡ Some x = b.1 in cc)
      ]

  exact_is : Sound (IsArgument n) argument_text (exact_from type)
  exact_is bytes x e =
      let a = bind_some (reference_from type bytes) (λ (t : TypeTree × List ℕ). Some (exact t.0, t.1)) x e in
      let q : (exact a.0.0, a.0.1) ≡ x = (let g = a.2 in cc) in
      subst (At (IsArgument n) argument_text bytes) q (reference_is bytes a.0 a.1)

  upper_is : (bytes : List ℕ) (x : ArgumentTree × List ℕ) → upper_from type bytes ≡ Some x → At (IsArgument n) argument_text (43 ∷ bytes) x
  upper_is bytes x e =
      let a = bind_some (reference_from type bytes) (λ (t : TypeTree × List ℕ). Some (upper t.0, t.1)) x e in
      let q : (upper a.0.0, a.0.1) ≡ x = (let g = a.2 in cc) in
      let t = reference_is bytes a.0 a.1 in
      subst (At (IsArgument n) argument_text (43 ∷ bytes)) q (t.0, ap (λ (bs : List ℕ). 43 ∷ bs) t.1)

  lower_is : (bytes : List ℕ) (x : ArgumentTree × List ℕ) → lower_from type bytes ≡ Some x → At (IsArgument n) argument_text (45 ∷ bytes) x
  lower_is bytes x e =
      let a = bind_some (reference_from type bytes) (λ (t : TypeTree × List ℕ). Some (lower t.0, t.1)) x e in
      let q : (lower a.0.0, a.0.1) ≡ x = (let g = a.2 in cc) in
      let t = reference_is bytes a.0 a.1 in
      subst (At (IsArgument n) argument_text (45 ∷ bytes)) q (t.0, ap (λ (bs : List ℕ). 45 ∷ bs) t.1)

  argument_is : Sound (IsArgument n) argument_text (argument_from type)
  unfolding argument_from
  argument_is [] x e = absurd cc
  argument_is (b ∷ bs) x e = elim (chosen (nat_eq b 42) _ _ _ e) [
    | inl a ↦
        let q : (any, bs) ≡ x = (let g = a.1 in cc) in
        subst (At (IsArgument n) argument_text (b ∷ bs)) q (tt, ap (λ (k : ℕ). k ∷ bs) (eqb-true b 42 a.0))
    | inr a ↦ elim (chosen (nat_eq b 43) _ _ _ a.1) [
      | inl c ↦ subst (λ (k : ℕ). At (IsArgument n) argument_text (k ∷ bs) x) (sym (eqb-true b 43 c.0)) (upper_is bs x c.1)
      | inr c ↦ elim (chosen (nat_eq b 45) _ _ _ c.1) [
        | inl d ↦ subst (λ (k : ℕ). At (IsArgument n) argument_text (k ∷ bs) x) (sym (eqb-true b 45 d.0)) (lower_is bs x d.1)
        | inr d ↦ exact_is (b ∷ bs) x d.1
      ]
    ]
  ]

  list_step : (m : ℕ) (bytes : List ℕ) (x : Arguments × List ℕ) → ((bs : List ℕ) (y : Arguments × List ℕ) → list_from type m bs ≡ Some y → ListAt n bs y)
      → (o : Option (List ℕ)) → behind 62 bytes ≡ o → ended_or no_arguments o (more_list type m bytes) ≡ Some x → ListAt n bytes x
  list_step m bytes x ih (Some rest) c e =
      let q : (no_arguments, rest) ≡ x = cc in
      subst (ListAt n bytes) q (tt, behind_is 62 bytes rest c)
  list_step m bytes x ih None c e =
      let a = bind_some (argument_from type bytes) (λ (a : ArgumentTree × List ℕ). list_from type m a.1 >>= λ more. Some (argument a.0 more.0, more.1)) x e in
      let b = bind_some (list_from type m a.0.1) (λ (more : Arguments × List ℕ). Some (argument a.0.0 more.0, more.1)) x a.2 in
      let first = argument_is bytes a.0 a.1 in
      let others = ih a.0.1 b.0 b.1 in
      let q : (argument a.0.0 b.0.0, b.0.1) ≡ x = (let g = b.2 in cc) in
      subst (ListAt n bytes) q ((first.0, others.0), first.1 ∙ ap (λ (bs : List ℕ). argument_text a.0.0 ++ bs) others.1 ∙ sym (append_assoc (argument_text a.0.0) (list_text b.0.0) (62 ∷ b.0.1)))

  list_is : (m : ℕ) (bytes : List ℕ) (x : Arguments × List ℕ) → list_from type m bytes ≡ Some x → ListAt n bytes x
  unfolding list_from
  list_is zero bytes x e = absurd cc
  list_is (suc m) bytes x e = list_step m bytes x (list_is m) (behind 62 bytes) refl e

  some_is : (bytes : List ℕ) (y x : Arguments × List ℕ) → ListAt n bytes y → some_arguments y ≡ Some x → At (AreArguments n) arguments_text (60 ∷ bytes) x
  some_is bytes (no_arguments, rest) x h e = absurd cc
  some_is bytes (argument a more, rest) x h e =
      let q : (argument a more, rest) ≡ x = cc in
      let again : list_text (argument a more) ++ 62 ∷ rest ≡ (argument_text a ++ (list_text more ++ 62 ∷ [])) ++ rest = simp append_assoc in
      subst (At (AreArguments n) arguments_text (60 ∷ bytes)) q (h.0, ap (λ (bs : List ℕ). 60 ∷ bs) (h.1 ∙ again))

  arguments_step : (bytes : List ℕ) (x : Arguments × List ℕ) (o : Option (List ℕ)) → behind 60 bytes ≡ o → arguments_behind type bytes o ≡ Some x → At (AreArguments n) arguments_text bytes x
  arguments_step bytes x None c e =
      let q : (no_arguments, bytes) ≡ x = cc in
      subst (At (AreArguments n) arguments_text bytes) q (tt, refl)
  arguments_step bytes x (Some rest) c e =
      let a = bind_some (list_from type (length rest) rest) some_arguments x e in
      let s = some_is rest a.0 x (list_is (length rest) rest a.0 a.1) a.2 in
      subst (λ (bs : List ℕ). At (AreArguments n) arguments_text bs x) (sym (behind_is 60 bytes rest c)) s

  arguments_is : Sound (AreArguments n) arguments_text (arguments_from type)
  unfolding arguments_from
  arguments_is bytes x e = arguments_step bytes x (behind 60 bytes) refl e

  part_is : Sound (IsPart n) part_text (part_from type)
  unfolding part_from
  part_is bytes x e =
      let a = bind_some (name_from bytes) (λ (name : List ℕ × List ℕ). arguments_from type name.1 >>= λ args. Some (part_tree name.0 args.0, args.1)) x e in
      let b = bind_some (arguments_from type a.0.1) (λ (args : Arguments × List ℕ). Some (part_tree a.0.0 args.0, args.1)) x a.2 in
      let name = name_is bytes a.0 a.1 in
      let args = arguments_is a.0.1 b.0 b.1 in
      let q : (part_tree a.0.0 b.0.0, b.0.1) ≡ x = (let g = b.2 in cc) in
      subst (At (IsPart n) part_text bytes) q ((name.0, args.0), name.1 ∙ ap (λ (bs : List ℕ). a.0.0 ++ bs) args.1 ∙ sym (append_assoc a.0.0 (arguments_text b.0.0) b.0.1))

  parts_step : (bytes : List ℕ) (x : Parts × List ℕ) (more : List ℕ → Read Parts) (p : PartTree × List ℕ) → Sound (AreSomeParts n) parts_text more → At (IsPart n) part_text bytes p
      → (o : Option (List ℕ)) → behind 46 p.1 ≡ o → parts_behind more p o ≡ Some x → At (AreSomeParts n) parts_text bytes x
  parts_step bytes x more p ih h None c e =
      let q : (part p.0 no_parts, p.1) ≡ x = cc in
      let again : part_text p.0 ++ p.1 ≡ (part_text p.0 ++ []) ++ p.1 = ap (λ (bs : List ℕ). bs ++ p.1) (sym (append-nil (part_text p.0))) in
      subst (At (AreSomeParts n) parts_text bytes) q ((refl, (h.0, tt)), h.1 ∙ again)
  parts_step bytes x more p ih h (Some rest) c e =
      let a = bind_some (more rest) (λ (ps : Parts × List ℕ). Some (part p.0 ps.0, ps.1)) x e in
      let q : (part p.0 a.0.0, a.0.1) ≡ x = (let g = a.2 in cc) in
      let others = ih rest a.0 a.1 in
      let dot : p.1 ≡ members_text a.0.0 ++ a.0.1 = behind_is 46 p.1 rest c ∙ ap (λ (bs : List ℕ). 46 ∷ bs) others.1 ∙ ap (λ (bs : List ℕ). bs ++ a.0.1) (sym (members a.0.0 others.0.0)) in
      subst (At (AreSomeParts n) parts_text bytes) q ((refl, (h.0, others.0.1)), h.1 ∙ ap (λ (bs : List ℕ). part_text p.0 ++ bs) dot ∙ sym (append_assoc (part_text p.0) (members_text a.0.0) a.0.1))

  parts_is : (m : ℕ) → Sound (AreSomeParts n) parts_text (parts_from type m)
  unfolding parts_from
  parts_is zero bytes x e = absurd cc
  parts_is (suc m) bytes x e =
      let a = bind_some (part_from type bytes) (λ (p : PartTree × List ℕ). parts_behind (parts_from type m) p (behind 46 p.1)) x e in
      parts_step bytes x (parts_from type m) a.0 (parts_is m) (part_is bytes a.0 a.1) (behind 46 a.0.1) refl a.2

  class_is : (bytes : List ℕ) (x : ClassTree × List ℕ) → class_from type bytes ≡ Some x → At (IsClass n) class_text (76 ∷ bytes) x
  unfolding class_from
  class_is bytes x e =
      let front : List (List ℕ) × List ℕ = package_from (length bytes) bytes in
      let k = package_is (length bytes) bytes in
      let a = bind_some (parts_from type (length front.1) front.1) (λ (ps : Parts × List ℕ). behind 59 ps.1 >>= λ rest. Some (class_tree front.0 ps.0, rest)) x e in
      let b = bind_some (behind 59 a.0.1) (λ (rest : List ℕ). Some (class_tree front.0 a.0.0, rest)) x a.2 in
      let ps = parts_is (length front.1) front.1 a.0 a.1 in
      let q : (class_tree front.0 a.0.0, b.0) ≡ x = (let g = b.2 in cc) in
      let semi = behind_is 59 a.0.1 b.0 b.1 in
      let again : package_text front.0 ++ (parts_text a.0.0 ++ 59 ∷ b.0) ≡ (package_text front.0 ++ (parts_text a.0.0 ++ 59 ∷ [])) ++ b.0 = simp append_assoc in
      let whole : bytes ≡ (package_text front.0 ++ (parts_text a.0.0 ++ 59 ∷ [])) ++ b.0 =
      k.1 ∙ ap (λ (bs : List ℕ). package_text front.0 ++ bs) (ps.1 ∙ ap (λ (bs : List ℕ). parts_text a.0.0 ++ bs) semi) ∙ again in
      subst (At (IsClass n) class_text (76 ∷ bytes)) q ((k.0, ps.0.0, ps.0.1), ap (λ (bs : List ℕ). 76 ∷ bs) whole)

  variable_is : (bytes : List ℕ) (x : TypeTree × List ℕ) → variable_from bytes ≡ Some x → At (IsType (suc n)) type_text (84 ∷ bytes) x
  variable_is bytes x e =
      let a = bind_some (name_before 59 bytes) (λ (name : List ℕ × List ℕ). Some (variable name.0, name.1)) x e in
      let q : (variable a.0.0, a.0.1) ≡ x = (let g = a.2 in cc) in
      let name = name_before_is 59 bytes a.0 a.1 in
      subst (At (IsType (suc n)) type_text (84 ∷ bytes)) q (name.0, ap (λ (bs : List ℕ). 84 ∷ bs) (name.1 ∙ sym (append_assoc a.0.0 (59 ∷ []) a.0.1)))

  array_is : (bytes : List ℕ) (x : TypeTree × List ℕ) → array_from type bytes ≡ Some x → At (IsType (suc n)) type_text (91 ∷ bytes) x
  array_is bytes x e =
      let a = bind_some (type bytes) (λ (t : TypeTree × List ℕ). Some (array t.0, t.1)) x e in
      let q : (array a.0.0, a.0.1) ≡ x = (let g = a.2 in cc) in
      let t = is bytes a.0 a.1 in
      subst (At (IsType (suc n)) type_text (91 ∷ bytes)) q (t.0, ap (λ (bs : List ℕ). 91 ∷ bs) t.1)

  class_type_is : (bytes : List ℕ) (x : TypeTree × List ℕ) → class_type_from type bytes ≡ Some x → At (IsType (suc n)) type_text (76 ∷ bytes) x
  class_type_is bytes x e =
      let a = bind_some (class_from type bytes) (λ (c : ClassTree × List ℕ). Some (class c.0, c.1)) x e in
      let q : (class a.0.0, a.0.1) ≡ x = (let g = a.2 in cc) in
      subst (At (IsType (suc n)) type_text (76 ∷ bytes)) q (class_is bytes a.0 a.1)

  by_is : Sound (IsType (suc n)) type_text (type_by type)
  by_is [] x e = absurd cc
  by_is (b ∷ bs) x e = elim (chosen (is_base b) _ _ _ e) [
    | inl a ↦
        let q : (base b, bs) ≡ x = (let g = a.1 in cc) in
        subst (At (IsType (suc n)) type_text (b ∷ bs)) q (a.0, refl)
    | inr a ↦ elim (chosen (nat_eq b 84) _ _ _ a.1) [
      | inl c ↦ subst (λ (k : ℕ). At (IsType (suc n)) type_text (k ∷ bs) x) (sym (eqb-true b 84 c.0)) (variable_is bs x c.1)
      | inr c ↦ elim (chosen (nat_eq b 91) _ _ _ c.1) [
        | inl d ↦ subst (λ (k : ℕ). At (IsType (suc n)) type_text (k ∷ bs) x) (sym (eqb-true b 91 d.0)) (array_is bs x d.1)
        | inr d ↦ elim (chosen (nat_eq b 76) _ _ _ d.1) [
          | inl f ↦ subst (λ (k : ℕ). At (IsType (suc n)) type_text (k ∷ bs) x) (sym (eqb-true b 76 f.0)) (class_type_is bs x f.1)
          | inr f ↦ absurd (let q : None ≡ Some x = f.1 in cc)
        ]
      ]
    ]
  ]

pub type_is : (n : ℕ) → Sound (IsType n) type_text (type_from n)
unfolding type_from
type_is zero bytes x e = absurd cc
type_is (suc n) bytes x e = by_is n (type_from n) (type_is n) bytes x e
