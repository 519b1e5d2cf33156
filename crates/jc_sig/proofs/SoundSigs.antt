-- What is read as a signature is its text, and is of the grammar.
use Rattle.std.proofs.Common.{◌≡◌, ℕ, suc, zero, true, cond, List, [], ◌∷◌, ◌++◌, length, Option, Some, None, IfSome, refl, sym, ap, subst, ◌∙◌, inl, inr, append_assoc}
use Rattle.std.proofs.lemmas.List.{append-nil}
use Rattle.std.specs.List.{AllByRecursion}
use Rattle.jc_desc.specs.Names.{is_nil}
use Rattle.jc_desc.specs.Reading.{◌>>=◌, whole}
use Rattle.jc_desc.proofs.Grammar.{bind_some, chosen}
use Rattle.jc_sig.specs.Trees.{TypeTree, base, variable, array, class, ClassTree, ParameterTree, ClassSigTree, MethodSigTree, type_text, class_text, types_text, classes_text, bound_text, bounds_text, parameter_text, parameters_text, type_parameters_text, result_text, throws_text}
use Rattle.jc_sig.specs.Grammar.{is_thrown, IsTop, IsTopClass, IsBound, IsThrown, IsParameter, SpellsClassSig, SpellsMethodSig, SpellsFieldSig}
use Rattle.jc_sig.specs.Reading.{Read, behind, name_before, reference_from, ended_or, top_from, only_class, top_class_from, begins_bound, class_bound_from, none_or, bounds_from, parameter_from, parameters_from, some_of, type_parameters_behind, type_parameters_from, classes_of, class_sig_of, types_from, result_behind, result_from, thrown_from, throws_of, method_sig_of, field_sig_of}
use Rattle.jc_sig.proofs.Pieces.{behind_is, name_before_is}
use Rattle.jc_sig.proofs.Sound.{At, Sound, type_is, reference_is}

top_is : Sound IsTop type_text top_from
top_is = type_is 200

bound_is : Sound IsBound type_text (reference_from top_from)
bound_is = reference_is 200 top_from top_is

only_is : (bytes : List ℕ) (y : TypeTree × List ℕ) (x : ClassTree × List ℕ) → At IsTop type_text bytes y → only_class y ≡ Some x → At IsTopClass class_text bytes x
only_is bytes (base letter, rest) x h e = absurd cc
only_is bytes (variable name, rest) x h e = absurd cc
only_is bytes (array t, rest) x h e = absurd cc
only_is bytes (class c, rest) x h e = let q : (c, rest) ≡ x = cc in subst (At IsTopClass class_text bytes) q h

top_class_is : Sound IsTopClass class_text top_class_from
unfolding top_class_from
top_class_is bytes x e =
    let a = bind_some (top_from bytes) only_class x e in
    only_is bytes a.0 x (top_is bytes a.0 a.1) a.2

-- ---- type parameters

abbrev IsClassBound : Option TypeTree → Type 0
IsClassBound o = IfSome o IsBound

class_bound_is : Sound IsClassBound bound_text class_bound_from
unfolding class_bound_from
class_bound_is bytes x e = elim (chosen (begins_bound bytes) _ _ _ e) [
  | inl a ↦
      let b = bind_some (reference_from top_from bytes) (λ (t : TypeTree × List ℕ). Some (Some t.0, t.1)) x a.1 in
      let q : (Some b.0.0, b.0.1) ≡ x = (let g = b.2 in cc) in
      subst (At IsClassBound bound_text bytes) q (bound_is bytes b.0 b.1)
  | inr a ↦
      let q : (None, bytes) ≡ x = (let g = a.1 in cc) in
      subst (At IsClassBound bound_text bytes) q (tt, refl)
]

abbrev AreBounds : List TypeTree → Type 0
AreBounds ts = AllByRecursion IsBound ts

abbrev more_bounds : ℕ → List ℕ → Read (List TypeTree)
more_bounds n rest = reference_from top_from rest >>= λ t. bounds_from n t.1 >>= λ more. Some (t.0 ∷ more.0, more.1)

bounds_step : (n : ℕ) (bytes : List ℕ) (x : List TypeTree × List ℕ) → Sound AreBounds bounds_text (bounds_from n)
    → (o : Option (List ℕ)) → behind 58 bytes ≡ o → none_or bytes o (more_bounds n) ≡ Some x → At AreBounds bounds_text bytes x
bounds_step n bytes x ih None c e =
    let q : ([], bytes) ≡ x = cc in
    subst (At AreBounds bounds_text bytes) q (tt, refl)
bounds_step n bytes x ih (Some rest) c e =
    let a = bind_some (reference_from top_from rest) (λ (t : TypeTree × List ℕ). bounds_from n t.1 >>= λ more. Some (t.0 ∷ more.0, more.1)) x e in
    let b = bind_some (bounds_from n a.0.1) (λ (more : List TypeTree × List ℕ). Some (a.0.0 ∷ more.0, more.1)) x a.2 in
    let t = bound_is rest a.0 a.1 in
    let ts = ih a.0.1 b.0 b.1 in
    let q : (a.0.0 ∷ b.0.0, b.0.1) ≡ x = (let g = b.2 in cc) in
    let again : type_text a.0.0 ++ (bounds_text b.0.0 ++ b.0.1) ≡ (type_text a.0.0 ++ bounds_text b.0.0) ++ b.0.1 = simp append_assoc in
    subst (At AreBounds bounds_text bytes) q ((t.0, ts.0), behind_is 58 bytes rest c ∙ ap (λ (bs : List ℕ). 58 ∷ bs) (t.1 ∙ ap (λ (bs : List ℕ). type_text a.0.0 ++ bs) ts.1 ∙ again))

bounds_is : (n : ℕ) → Sound AreBounds bounds_text (bounds_from n)
unfolding bounds_from
bounds_is zero bytes x e =
    let q : ([], bytes) ≡ x = cc in
    subst (At AreBounds bounds_text bytes) q (tt, refl)
bounds_is (suc n) bytes x e = bounds_step n bytes x (bounds_is n) (behind 58 bytes) refl e

abbrev made : List ℕ → Option TypeTree → List TypeTree → ParameterTree
made name bound bounds = record { name = name; class_bound = bound; bounds = bounds }

parameter_is : Sound IsParameter parameter_text parameter_from
unfolding parameter_from
parameter_is bytes x e =
    let a = bind_some (name_before 58 bytes) (λ (name : List ℕ × List ℕ). class_bound_from name.1 >>= λ bound. bounds_from (length bound.1) bound.1 >>= λ bounds. Some (made name.0 bound.0 bounds.0, bounds.1)) x e in
    let b = bind_some (class_bound_from a.0.1) (λ (bound : Option TypeTree × List ℕ). bounds_from (length bound.1) bound.1 >>= λ bounds. Some (made a.0.0 bound.0 bounds.0, bounds.1)) x a.2 in
    let d = bind_some (bounds_from (length b.0.1) b.0.1) (λ (bounds : List TypeTree × List ℕ). Some (made a.0.0 b.0.0 bounds.0, bounds.1)) x b.2 in
    let name = name_before_is 58 bytes a.0 a.1 in
    let bound = class_bound_is a.0.1 b.0 b.1 in
    let bounds = bounds_is (length b.0.1) b.0.1 d.0 d.1 in
    let q : (made a.0.0 b.0.0 d.0.0, d.0.1) ≡ x = (let g = d.2 in cc) in
    let again : a.0.0 ++ 58 ∷ (bound_text b.0.0 ++ (bounds_text d.0.0 ++ d.0.1)) ≡ (a.0.0 ++ 58 ∷ (bound_text b.0.0 ++ bounds_text d.0.0)) ++ d.0.1 = simp append_assoc in
    subst (At IsParameter parameter_text bytes) q (
      record { name = name.0; class_bound = bound.0; bounds = bounds.0 },
      name.1 ∙ ap (λ (bs : List ℕ). a.0.0 ++ 58 ∷ bs) (bound.1 ∙ ap (λ (bs : List ℕ). bound_text b.0.0 ++ bs) bounds.1) ∙ again,
    )

-- items and the byte that ends them
abbrev ListAt : {A : Type 0} → (A → Type 0) → (List A → List ℕ) → ℕ → List ℕ → List A × List ℕ → Type 0
ListAt P text byte bytes x = AllByRecursion P x.0 × (bytes ≡ text x.0 ++ byte ∷ x.1)

abbrev AreParametersAt : List ℕ → List ParameterTree × List ℕ → Type 0
AreParametersAt = ListAt IsParameter parameters_text 62

abbrev more_parameters : ℕ → List ℕ → Read (List ParameterTree)
more_parameters n bytes = parameter_from bytes >>= λ p. parameters_from n p.1 >>= λ more. Some (p.0 ∷ more.0, more.1)

parameters_step : (n : ℕ) (bytes : List ℕ) (x : List ParameterTree × List ℕ) → ((bs : List ℕ) (y : List ParameterTree × List ℕ) → parameters_from n bs ≡ Some y → AreParametersAt bs y)
    → (o : Option (List ℕ)) → behind 62 bytes ≡ o → ended_or [] o (more_parameters n bytes) ≡ Some x → AreParametersAt bytes x
parameters_step n bytes x ih (Some rest) c e =
    let q : ([], rest) ≡ x = cc in
    subst (AreParametersAt bytes) q (tt, behind_is 62 bytes rest c)
parameters_step n bytes x ih None c e =
    let a = bind_some (parameter_from bytes) (λ (p : ParameterTree × List ℕ). parameters_from n p.1 >>= λ more. Some (p.0 ∷ more.0, more.1)) x e in
    let b = bind_some (parameters_from n a.0.1) (λ (more : List ParameterTree × List ℕ). Some (a.0.0 ∷ more.0, more.1)) x a.2 in
    let p = parameter_is bytes a.0 a.1 in
    let ps = ih a.0.1 b.0 b.1 in
    let q : (a.0.0 ∷ b.0.0, b.0.1) ≡ x = (let g = b.2 in cc) in
    subst (AreParametersAt bytes) q ((p.0, ps.0), p.1 ∙ ap (λ (bs : List ℕ). parameter_text a.0.0 ++ bs) ps.1 ∙ sym (append_assoc (parameter_text a.0.0) (parameters_text b.0.0) (62 ∷ b.0.1)))

parameters_is : (n : ℕ) (bytes : List ℕ) (x : List ParameterTree × List ℕ) → parameters_from n bytes ≡ Some x → AreParametersAt bytes x
unfolding parameters_from
parameters_is zero bytes x e = absurd cc
parameters_is (suc n) bytes x e = parameters_step n bytes x (parameters_is n) (behind 62 bytes) refl e

abbrev AreParameters : List ParameterTree → Type 0
AreParameters ps = AllByRecursion IsParameter ps

some_is : (bytes : List ℕ) (y x : List ParameterTree × List ℕ) → AreParametersAt bytes y → some_of y ≡ Some x → At AreParameters type_parameters_text (60 ∷ bytes) x
some_is bytes ([], rest) x h e = absurd cc
some_is bytes (p ∷ ps, rest) x h e =
    let q : (p ∷ ps, rest) ≡ x = cc in
    let again : (parameter_text p ++ parameters_text ps) ++ 62 ∷ rest ≡ (parameter_text p ++ (parameters_text ps ++ 62 ∷ [])) ++ rest = simp append_assoc in
    subst (At AreParameters type_parameters_text (60 ∷ bytes)) q (h.0, ap (λ (bs : List ℕ). 60 ∷ bs) (h.1 ∙ again))

type_parameters_step : (bytes : List ℕ) (x : List ParameterTree × List ℕ) (o : Option (List ℕ)) → behind 60 bytes ≡ o → type_parameters_behind bytes o ≡ Some x → At AreParameters type_parameters_text bytes x
type_parameters_step bytes x None c e =
    let q : ([], bytes) ≡ x = cc in
    subst (At AreParameters type_parameters_text bytes) q (tt, refl)
type_parameters_step bytes x (Some rest) c e =
    let a = bind_some (parameters_from (length rest) rest) some_of x e in
    let s = some_is rest a.0 x (parameters_is (length rest) rest a.0 a.1) a.2 in
    subst (λ (bs : List ℕ). At AreParameters type_parameters_text bs x) (sym (behind_is 60 bytes rest c)) s

type_parameters_is : Sound AreParameters type_parameters_text type_parameters_from
unfolding type_parameters_from
type_parameters_is bytes x e = type_parameters_step bytes x (behind 60 bytes) refl e

-- ---- classes

abbrev AreClassesOf : List ℕ → List ClassTree → Type 0
AreClassesOf bytes cs = AllByRecursion IsTopClass cs × (bytes ≡ classes_text cs)

nil_is : (bytes : List ℕ) → is_nil bytes ≡ true → bytes ≡ []
nil_is [] e = refl
nil_is (b ∷ bs) e = absurd cc

no_classes : (bytes : List ℕ) (cs : List ClassTree) → is_nil bytes ≡ true → Some [] ≡ Some cs → AreClassesOf bytes cs
no_classes bytes cs n e = let q : [] ≡ cs = cc in subst (AreClassesOf bytes) q (tt, nil_is bytes n)

classes_more : (n : ℕ) (bytes : List ℕ) (cs : List ClassTree) → ((bs : List ℕ) (ds : List ClassTree) → classes_of n bs ≡ Some ds → AreClassesOf bs ds)
    → (top_class_from bytes >>= λ c. classes_of n c.1 >>= λ more. Some (c.0 ∷ more)) ≡ Some cs → AreClassesOf bytes cs
classes_more n bytes cs ih e =
    let a = bind_some (top_class_from bytes) (λ (c : ClassTree × List ℕ). classes_of n c.1 >>= λ more. Some (c.0 ∷ more)) cs e in
    let d = bind_some (classes_of n a.0.1) (λ (more : List ClassTree). Some (a.0.0 ∷ more)) cs a.2 in
    let c = top_class_is bytes a.0 a.1 in
    let others = ih a.0.1 d.0 d.1 in
    let q : a.0.0 ∷ d.0 ≡ cs = (let g = d.2 in cc) in
    subst (AreClassesOf bytes) q ((c.0, others.0), c.1 ∙ ap (λ (xs : List ℕ). class_text a.0.0 ++ xs) others.1)

classes_is : (n : ℕ) (bytes : List ℕ) (cs : List ClassTree) → classes_of n bytes ≡ Some cs → AreClassesOf bytes cs
unfolding classes_of
classes_is zero bytes cs e = elim (chosen (is_nil bytes) _ _ _ e) [
  | inl a ↦ no_classes bytes cs a.0 a.1
  | inr a ↦ absurd (let q : None ≡ Some cs = a.1 in cc)
]
classes_is (suc n) bytes cs e = elim (chosen (is_nil bytes) _ _ _ e) [
  | inl a ↦ no_classes bytes cs a.0 a.1
  | inr a ↦ classes_more n bytes cs (classes_is n) a.1
]

pub class_sig_is : (bytes : List ℕ) (s : ClassSigTree) → class_sig_of bytes ≡ Some s → SpellsClassSig bytes s
unfolding class_sig_of
class_sig_is bytes s e =
    let a = bind_some (type_parameters_from bytes) (λ (ps : List ParameterTree × List ℕ). top_class_from ps.1 >>= λ c. classes_of (length c.1) c.1 >>= λ cs. Some (record { parameters = ps.0; superclass = c.0; interfaces = cs })) s e in
    let b = bind_some (top_class_from a.0.1) (λ (c : ClassTree × List ℕ). classes_of (length c.1) c.1 >>= λ cs. Some (record { parameters = a.0.0; superclass = c.0; interfaces = cs })) s a.2 in
    let d = bind_some (classes_of (length b.0.1) b.0.1) (λ (cs : List ClassTree). Some (record { parameters = a.0.0; superclass = b.0.0; interfaces = cs })) s b.2 in
    let ps = type_parameters_is bytes a.0 a.1 in
    let c = top_class_is a.0.1 b.0 b.1 in
    let cs = classes_is (length b.0.1) b.0.1 d.0 d.1 in
    let q : record { parameters = a.0.0; superclass = b.0.0; interfaces = d.0 } ≡ s = (let g = d.2 in cc) in
    subst (SpellsClassSig bytes) q (record { parameters = ps.0; superclass = c.0; interfaces = cs.0 }, ps.1 ∙ ap (λ (bs : List ℕ). type_parameters_text a.0.0 ++ bs) (c.1 ∙ ap (λ (bs : List ℕ). class_text b.0.0 ++ bs) cs.1))

-- ---- methods

abbrev AreTypesAt : List ℕ → List TypeTree × List ℕ → Type 0
AreTypesAt = ListAt IsTop types_text 41

abbrev more_types : ℕ → List ℕ → Read (List TypeTree)
more_types n bytes = top_from bytes >>= λ t. types_from n t.1 >>= λ more. Some (t.0 ∷ more.0, more.1)

types_step : (n : ℕ) (bytes : List ℕ) (x : List TypeTree × List ℕ) → ((bs : List ℕ) (y : List TypeTree × List ℕ) → types_from n bs ≡ Some y → AreTypesAt bs y)
    → (o : Option (List ℕ)) → behind 41 bytes ≡ o → ended_or [] o (more_types n bytes) ≡ Some x → AreTypesAt bytes x
types_step n bytes x ih (Some rest) c e =
    let q : ([], rest) ≡ x = cc in
    subst (AreTypesAt bytes) q (tt, behind_is 41 bytes rest c)
types_step n bytes x ih None c e =
    let a = bind_some (top_from bytes) (λ (t : TypeTree × List ℕ). types_from n t.1 >>= λ more. Some (t.0 ∷ more.0, more.1)) x e in
    let b = bind_some (types_from n a.0.1) (λ (more : List TypeTree × List ℕ). Some (a.0.0 ∷ more.0, more.1)) x a.2 in
    let t = top_is bytes a.0 a.1 in
    let ts = ih a.0.1 b.0 b.1 in
    let q : (a.0.0 ∷ b.0.0, b.0.1) ≡ x = (let g = b.2 in cc) in
    subst (AreTypesAt bytes) q ((t.0, ts.0), t.1 ∙ ap (λ (bs : List ℕ). type_text a.0.0 ++ bs) ts.1 ∙ sym (append_assoc (type_text a.0.0) (types_text b.0.0) (41 ∷ b.0.1)))

types_is : (n : ℕ) (bytes : List ℕ) (x : List TypeTree × List ℕ) → types_from n bytes ≡ Some x → AreTypesAt bytes x
unfolding types_from
types_is zero bytes x e = absurd cc
types_is (suc n) bytes x e = types_step n bytes x (types_is n) (behind 41 bytes) refl e

abbrev IsResult : Option TypeTree → Type 0
IsResult o = IfSome o IsTop

result_step : (bytes : List ℕ) (x : Option TypeTree × List ℕ) (o : Option (List ℕ)) → behind 86 bytes ≡ o → result_behind bytes o ≡ Some x → At IsResult result_text bytes x
result_step bytes x None c e =
    let a = bind_some (top_from bytes) (λ (t : TypeTree × List ℕ). Some (Some t.0, t.1)) x e in
    let q : (Some a.0.0, a.0.1) ≡ x = (let g = a.2 in cc) in
    subst (At IsResult result_text bytes) q (top_is bytes a.0 a.1)
result_step bytes x (Some rest) c e =
    let q : (None, rest) ≡ x = cc in
    subst (At IsResult result_text bytes) q (tt, behind_is 86 bytes rest c)

result_is : Sound IsResult result_text result_from
unfolding result_from
result_is bytes x e = result_step bytes x (behind 86 bytes) refl e

abbrev ThrownAt : List ℕ → TypeTree × List ℕ → Type 0
ThrownAt bytes x = IsThrown x.0 × (bytes ≡ 94 ∷ (type_text x.0 ++ x.1))

thrown_is : (bytes : List ℕ) (x : TypeTree × List ℕ) → thrown_from bytes ≡ Some x → ThrownAt bytes x
unfolding thrown_from
thrown_is bytes x e =
    let a = bind_some (behind 94 bytes) (λ (rest : List ℕ). top_from rest >>= λ t. cond (is_thrown t.0) (Some t) None) x e in
    let b = bind_some (top_from a.0) (λ (t : TypeTree × List ℕ). cond (is_thrown t.0) (Some t) None) x a.2 in
    let t = top_is a.0 b.0 b.1 in
    elim (chosen (is_thrown b.0.0) _ _ _ b.2) [
      | inl d ↦
          let q : b.0 ≡ x = (let g = d.1 in cc) in
          subst (ThrownAt bytes) q ((d.0, t.0), behind_is 94 bytes a.0 a.1 ∙ ap (λ (bs : List ℕ). 94 ∷ bs) t.1)
      | inr d ↦ absurd (let q : None ≡ Some x = d.1 in cc)
    ]

abbrev AreThrownBy : List ℕ → List TypeTree → Type 0
AreThrownBy bytes ts = AllByRecursion IsThrown ts × (bytes ≡ throws_text ts)

no_throws : (bytes : List ℕ) (ts : List TypeTree) → is_nil bytes ≡ true → Some [] ≡ Some ts → AreThrownBy bytes ts
no_throws bytes ts n e = let q : [] ≡ ts = cc in subst (AreThrownBy bytes) q (tt, nil_is bytes n)

throws_more : (n : ℕ) (bytes : List ℕ) (ts : List TypeTree) → ((bs : List ℕ) (us : List TypeTree) → throws_of n bs ≡ Some us → AreThrownBy bs us)
    → (thrown_from bytes >>= λ t. throws_of n t.1 >>= λ more. Some (t.0 ∷ more)) ≡ Some ts → AreThrownBy bytes ts
throws_more n bytes ts ih e =
    let a = bind_some (thrown_from bytes) (λ (t : TypeTree × List ℕ). throws_of n t.1 >>= λ more. Some (t.0 ∷ more)) ts e in
    let d = bind_some (throws_of n a.0.1) (λ (more : List TypeTree). Some (a.0.0 ∷ more)) ts a.2 in
    let t = thrown_is bytes a.0 a.1 in
    let others = ih a.0.1 d.0 d.1 in
    let q : a.0.0 ∷ d.0 ≡ ts = (let g = d.2 in cc) in
    subst (AreThrownBy bytes) q ((t.0, others.0), t.1 ∙ ap (λ (xs : List ℕ). 94 ∷ (type_text a.0.0 ++ xs)) others.1)

throws_is : (n : ℕ) (bytes : List ℕ) (ts : List TypeTree) → throws_of n bytes ≡ Some ts → AreThrownBy bytes ts
unfolding throws_of
throws_is zero bytes ts e = elim (chosen (is_nil bytes) _ _ _ e) [
  | inl a ↦ no_throws bytes ts a.0 a.1
  | inr a ↦ absurd (let q : None ≡ Some ts = a.1 in cc)
]
throws_is (suc n) bytes ts e = elim (chosen (is_nil bytes) _ _ _ e) [
  | inl a ↦ no_throws bytes ts a.0 a.1
  | inr a ↦ throws_more n bytes ts (throws_is n) a.1
]

abbrev signed : List ParameterTree → List TypeTree → Option TypeTree → List TypeTree → MethodSigTree
signed ps ts r ws = record { parameters = ps; arguments = ts; result = r; throws = ws }

pub method_sig_is : (bytes : List ℕ) (s : MethodSigTree) → method_sig_of bytes ≡ Some s → SpellsMethodSig bytes s
unfolding method_sig_of
method_sig_is bytes s e =
    let a = bind_some (type_parameters_from bytes) (λ (ps : List ParameterTree × List ℕ). behind 40 ps.1 >>= λ rest. types_from (length rest) rest >>= λ ts. result_from ts.1 >>= λ r. throws_of (length r.1) r.1 >>= λ ws. Some (signed ps.0 ts.0 r.0 ws)) s e in
    let b = bind_some (behind 40 a.0.1) (λ (rest : List ℕ). types_from (length rest) rest >>= λ ts. result_from ts.1 >>= λ r. throws_of (length r.1) r.1 >>= λ ws. Some (signed a.0.0 ts.0 r.0 ws)) s a.2 in
    let d = bind_some (types_from (length b.0) b.0) (λ (ts : List TypeTree × List ℕ). result_from ts.1 >>= λ r. throws_of (length r.1) r.1 >>= λ ws. Some (signed a.0.0 ts.0 r.0 ws)) s b.2 in
    let f = bind_some (result_from d.0.1) (λ (r : Option TypeTree × List ℕ). throws_of (length r.1) r.1 >>= λ ws. Some (signed a.0.0 d.0.0 r.0 ws)) s d.2 in
    let g = bind_some (throws_of (length f.0.1) f.0.1) (λ (ws : List TypeTree). Some (signed a.0.0 d.0.0 f.0.0 ws)) s f.2 in
    let ps = type_parameters_is bytes a.0 a.1 in
    let ts = types_is (length b.0) b.0 d.0 d.1 in
    let r = result_is d.0.1 f.0 f.1 in
    let ws = throws_is (length f.0.1) f.0.1 g.0 g.1 in
    let q : signed a.0.0 d.0.0 f.0.0 g.0 ≡ s = (let k = g.2 in cc) in
    let tail : b.0 ≡ types_text d.0.0 ++ 41 ∷ (result_text f.0.0 ++ throws_text g.0) = ts.1 ∙ ap (λ (bs : List ℕ). types_text d.0.0 ++ 41 ∷ bs) (r.1 ∙ ap (λ (bs : List ℕ). result_text f.0.0 ++ bs) ws.1) in
    subst (SpellsMethodSig bytes) q (
      record { parameters = ps.0; arguments = ts.0; result = r.0; throws = ws.0 },
      ps.1 ∙ ap (λ (bs : List ℕ). type_parameters_text a.0.0 ++ bs) (behind_is 40 a.0.1 b.0 b.1 ∙ ap (λ (bs : List ℕ). 40 ∷ bs) tail),
    )

-- ---- fields

whole_is : {A : Type 0} (r : Read A) (t : A) → whole r ≡ Some t → r ≡ Some (t, [])
whole_is {A} None t e = absurd cc
whole_is {A} (Some (x, [])) t e = ap (λ (o : A). Some (o, [])) (let h : x ≡ t = cc in h)
whole_is {A} (Some (x, b ∷ bs)) t e = absurd cc

pub field_sig_is : (bytes : List ℕ) (t : TypeTree) → field_sig_of bytes ≡ Some t → SpellsFieldSig bytes t
unfolding field_sig_of
field_sig_is bytes t e =
    let k = bound_is bytes (t, []) (whole_is (reference_from top_from bytes) t e) in
    (k.0, k.1 ∙ append-nil (type_text t))
