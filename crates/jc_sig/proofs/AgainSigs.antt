-- The text of a signature of the grammar is read as it.
use Rattle.std.proofs.Common.{◌≡◌, ℕ, suc, zero, ◌≤◌, ◌<◌, Bool, true, false, not, ◌||◌, nat_eq, List, [], ◌∷◌, ◌++◌, length, drop, Option, Some, None, IfSome, refl, sym, ap, subst, ◌∙◌, append_assoc, arith}
use Rattle.std.proofs.lemmas.Bool.{and_parts, eqb-true, or_from, and_right}
use Rattle.std.proofs.lemmas.List.{append-nil, length-append, drop_at}
use Rattle.std.specs.List.{list_all, AllByRecursion}
use Rattle.jc_desc.specs.Names.{is_nil}
use Rattle.jc_sig.specs.Trees.{TypeTree, base, variable, array, class, ClassTree, class_tree, Parts, ParameterTree, ClassSigTree, MethodSigTree, package_text, type_text, class_text, parts_text, types_text, classes_text, bound_text, bounds_text, parameter_text, parameters_text, type_parameters_text, result_text, throws_text}
use Rattle.jc_sig.specs.Grammar.{is_identifier_byte, is_identifier, is_base, IsTop, IsTopClass, IsBound, IsThrown, IsParameter, SpellsClassSig, SpellsMethodSig, SpellsFieldSig}
use Rattle.jc_sig.specs.Reading.{behind, name_len, name_before, reference_from, top_from, top_class_from, not_before_colon, begins_bound, class_bound_from, bounds_from, parameter_from, parameters_from, type_parameters_from, classes_of, class_sig_of, types_from, result_from, thrown_from, throws_of, method_sig_of, field_sig_of}
use Rattle.jc_sig.proofs.Pieces.{stops, end_of_name, name_before_again}
use Rattle.jc_sig.proofs.Again.{Again, type_again, reference_again, some_type, first_name}

pub top_again : Again IsTop type_text top_from
top_again = type_again 200

pub bound_again : Again IsBound type_text (reference_from top_from)
bound_again = reference_again 200 top_from top_again

pub top_class_again : Again IsTopClass class_text top_class_from
unfolding top_class_from
top_class_again c rest h = rw (top_again (class c) rest h) refl

-- ---- where a bound begins

-- a name with no : behind it
no_colon : (b : ℕ) (name rest : List ℕ) → is_identifier_byte b ≡ true → list_all is_identifier_byte name ≡ true → stops rest ≡ true → drop (name_len (b ∷ (name ++ rest))) (b ∷ (name ++ rest)) ≡ rest
no_colon b name rest f h s =
    let all : list_all is_identifier_byte (b ∷ name) ≡ true = rw (f, h) refl in
    let e : name_len (b ∷ (name ++ rest)) ≡ length (b ∷ name) = end_of_name (b ∷ name) rest all s in
    ap (λ (k : ℕ). drop k (b ∷ (name ++ rest))) e ∙ drop_at (b ∷ name) rest (length (b ∷ name)) refl

letters : (name : List ℕ) → is_identifier name ≡ true → list_all is_identifier_byte name ≡ true
letters name h = (and_parts (not (is_nil name)) (list_all is_identifier_byte name) h).1

class_begins : (names : List (List ℕ)) (ps : Parts) (rest : List ℕ) → IsTopClass (class_tree names ps) → begins_bound (76 ∷ (package_text names ++ (parts_text ps ++ 59 ∷ rest))) ≡ true
class_begins [] ps rest h =
    let f = first_name 199 ps rest h.1 h.2 in
    let e : drop (name_len (76 ∷ (f.0 ++ f.1))) (76 ∷ (f.0 ++ f.1)) ≡ f.1 = no_colon 76 f.0 f.1 refl (letters f.0 f.2) f.4 in
    let here : begins_bound (76 ∷ (f.0 ++ f.1)) ≡ true = rw (e, f.6) refl in
    ap (λ (bs : List ℕ). begins_bound (76 ∷ bs)) f.3 ∙ here
class_begins (name ∷ names) ps rest h =
    let more : List ℕ = package_text names ++ (parts_text ps ++ 59 ∷ rest) in
    let n = (and_parts (is_identifier name) (list_all is_identifier names) h.0).0 in
    let e : drop (name_len (76 ∷ (name ++ 47 ∷ more))) (76 ∷ (name ++ 47 ∷ more)) ≡ 47 ∷ more = no_colon 76 name (47 ∷ more) refl (letters name n) refl in
    let here : begins_bound (76 ∷ (name ++ 47 ∷ more)) ≡ true = rw e refl in
    ap (λ (bs : List ℕ). begins_bound (76 ∷ bs)) (append_assoc name (47 ∷ package_text names) (parts_text ps ++ 59 ∷ rest)) ∙ here

-- a bound stands there
bound_begins : (t : TypeTree) (rest : List ℕ) → IsBound t → begins_bound (type_text t ++ rest) ≡ true
bound_begins (base letter) rest h = absurd (let q : false ≡ true = h.0 in cc)
bound_begins (array t) rest h = refl
bound_begins (variable name) rest h =
    let e : drop (name_len (84 ∷ (name ++ 59 ∷ rest))) (84 ∷ (name ++ 59 ∷ rest)) ≡ 59 ∷ rest = no_colon 84 name (59 ∷ rest) refl (letters name h.1) refl in
    let here : begins_bound (84 ∷ (name ++ 59 ∷ rest)) ≡ true = rw e refl in
    ap (λ (bs : List ℕ). begins_bound (84 ∷ bs)) (append_assoc name (59 ∷ []) rest) ∙ here
bound_begins (class (class_tree names ps)) rest h =
    let same : (package_text names ++ (parts_text ps ++ 59 ∷ [])) ++ rest ≡ package_text names ++ (parts_text ps ++ 59 ∷ rest) = simp append_assoc in
    ap (λ (bs : List ℕ). begins_bound (76 ∷ bs)) same ∙ class_begins names ps rest h.1

not_open : (b : ℕ) → is_identifier_byte b ≡ true → nat_eq b 91 ≡ false
not_open b h = go (nat_eq b 91) refl where
  go : (t : Bool) → nat_eq b 91 ≡ t → t ≡ false
  go true e = absurd (let q : is_identifier_byte 91 ≡ true = subst (λ (k : ℕ). is_identifier_byte k ≡ true) (eqb-true b 91 e) h in cc)
  go false e = refl

-- the name of the next parameter does
next_begins : (name rest : List ℕ) → is_identifier name ≡ true → begins_bound (name ++ 58 ∷ rest) ≡ false
next_begins [] rest h = absurd cc
next_begins (b ∷ bs) rest h =
    let p = and_parts (is_identifier_byte b) (list_all is_identifier_byte bs) (letters (b ∷ bs) h) in
    let e : drop (name_len (b ∷ (bs ++ 58 ∷ rest))) (b ∷ (bs ++ 58 ∷ rest)) ≡ 58 ∷ rest = no_colon b bs (58 ∷ rest) p.0 p.1 refl in
    let last : not_before_colon (behind 58 (drop (name_len (b ∷ (bs ++ 58 ∷ rest))) (b ∷ (bs ++ 58 ∷ rest)))) ≡ false = rw e refl in
    or_from _ _ (not_open b p.0) (and_right (nat_eq b 76 || nat_eq b 84) _ last)

-- ---- type parameters

class_bound_again : (o : Option TypeTree) (rest : List ℕ) → IfSome o IsBound → begins_bound rest ≡ false → class_bound_from (bound_text o ++ rest) ≡ Some (o, rest)
unfolding class_bound_from
class_bound_again None rest h c = rw c refl
class_bound_again (Some t) rest h c = rw (bound_begins t rest h, bound_again t rest h) refl

bounds_again : (ts : List TypeTree) (m : ℕ) (rest : List ℕ) → length ts ≤ m → AllByRecursion IsBound ts → behind 58 rest ≡ None → bounds_from m (bounds_text ts ++ rest) ≡ Some (ts, rest)
unfolding bounds_from
bounds_again [] zero rest l h c = refl
bounds_again [] (suc m) rest l h c = rw c refl
bounds_again (t ∷ ts) zero rest l h c = absurd (omega arith)
bounds_again (t ∷ ts) (suc m) rest l h c =
    let after : List ℕ = bounds_text ts ++ rest in
    let ih = bounds_again ts m rest (let k : suc (length ts) ≤ suc m = l in omega arith) h.1 c in
    let here : bounds_from (suc m) (58 ∷ (type_text t ++ after)) ≡ Some (t ∷ ts, rest) = rw (bound_again t after h.0, ih) refl in
    ap (λ (bs : List ℕ). bounds_from (suc m) (58 ∷ bs)) (append_assoc (type_text t) (bounds_text ts) rest) ∙ here

bounds_fit : (ts : List TypeTree) → length ts ≤ length (bounds_text ts)
bounds_fit [] = omega arith
bounds_fit (t ∷ ts) = let q : suc (length ts) ≤ suc (length (type_text t ++ bounds_text ts)) = omega (arith, length-append (type_text t) (bounds_text ts), bounds_fit ts) in q

-- what may follow a parameter
record Ends (rest : List ℕ) : Type 0 where
  bound : begins_bound rest ≡ false
  colon : behind 58 rest ≡ None

bounds_begin : (ts : List TypeTree) (rest : List ℕ) → begins_bound rest ≡ false → begins_bound (bounds_text ts ++ rest) ≡ false
bounds_begin [] rest h = h
bounds_begin (t ∷ ts) rest h = refl

parameter_again : (p : ParameterTree) (rest : List ℕ) → IsParameter p → Ends rest → parameter_from (parameter_text p ++ rest) ≡ Some (p, rest)
unfolding parameter_from
parameter_again p rest h f =
    let after : List ℕ = bounds_text p.bounds ++ rest in
    let text : List ℕ = p.name ++ 58 ∷ (bound_text p.class_bound ++ after) in
    let same : (p.name ++ 58 ∷ (bound_text p.class_bound ++ bounds_text p.bounds)) ++ rest ≡ text = simp append_assoc in
    let name : name_before 58 text ≡ Some (p.name, bound_text p.class_bound ++ after) = name_before_again 58 p.name (bound_text p.class_bound ++ after) h.name refl refl in
    let bound = class_bound_again p.class_bound after h.class_bound (bounds_begin p.bounds rest f.bound) in
    let few : length p.bounds ≤ length after = omega (arith, length-append (bounds_text p.bounds) rest, bounds_fit p.bounds) in
    let bounds = bounds_again p.bounds (length after) rest few h.bounds f.colon in
    let here : parameter_from text ≡ Some (p, rest) = rw (name, bound, bounds) refl in
    ap (λ (bs : List ℕ). parameter_from bs) same ∙ here

-- no > and no : is the first byte of an identifier
name_first : (byte : ℕ) (name rest : List ℕ) → is_identifier_byte byte ≡ false → is_identifier name ≡ true → behind byte (name ++ rest) ≡ None
name_first byte [] rest f h = absurd cc
name_first byte (b ∷ bs) rest f h = go (nat_eq b byte) refl where
  go : (t : Bool) → nat_eq b byte ≡ t → behind byte (b ∷ (bs ++ rest)) ≡ None
  go true e = absurd (
      let p = and_parts (is_identifier_byte b) (list_all is_identifier_byte bs) (letters (b ∷ bs) h) in
      let q : is_identifier_byte byte ≡ true = subst (λ (k : ℕ). is_identifier_byte k ≡ true) (eqb-true b byte e) p.0 in
      cc)
  go false e = rw e refl

parameter_first : (byte : ℕ) (p : ParameterTree) (rest : List ℕ) → is_identifier_byte byte ≡ false → IsParameter p → behind byte (parameter_text p ++ rest) ≡ None
parameter_first byte p rest f h =
    let more : List ℕ = 58 ∷ (bound_text p.class_bound ++ bounds_text p.bounds) in
    ap (λ (bs : List ℕ). behind byte bs) (append_assoc p.name more rest) ∙ name_first byte p.name (more ++ rest) f h.name

ends : (ps : List ParameterTree) (rest : List ℕ) → AllByRecursion IsParameter ps → Ends (parameters_text ps ++ 62 ∷ rest)
ends [] rest h = record { bound = refl; colon = refl }
ends (p ∷ ps) rest h =
    let tail : List ℕ = parameters_text ps ++ 62 ∷ rest in
    let more : List ℕ = bound_text p.class_bound ++ bounds_text p.bounds in
    let same : (parameter_text p ++ parameters_text ps) ++ 62 ∷ rest ≡ p.name ++ 58 ∷ (more ++ tail) = simp append_assoc in
    record {
      bound = ap (λ (bs : List ℕ). begins_bound bs) same ∙ next_begins p.name (more ++ tail) h.0.name;
      colon = ap (λ (bs : List ℕ). behind 58 bs) same ∙ name_first 58 p.name (58 ∷ (more ++ tail)) refl h.0.name;
    }

parameters_again : (ps : List ParameterTree) (m : ℕ) (rest : List ℕ) → length ps < m → AllByRecursion IsParameter ps → parameters_from m (parameters_text ps ++ 62 ∷ rest) ≡ Some (ps, rest)
unfolding parameters_from
parameters_again [] zero rest l h = absurd (omega arith)
parameters_again (p ∷ ps) zero rest l h = absurd (omega arith)
parameters_again [] (suc m) rest l h = refl
parameters_again (p ∷ ps) (suc m) rest l h =
    let after : List ℕ = parameters_text ps ++ 62 ∷ rest in
    let ih = parameters_again ps m rest (let k : suc (length ps) < suc m = l in omega arith) h.1 in
    let here : parameters_from (suc m) (parameter_text p ++ after) ≡ Some (p ∷ ps, rest) = rw (parameter_first 62 p after refl h.0, parameter_again p after h.0 (ends ps rest h.1), ih) refl in
    ap (λ (bs : List ℕ). parameters_from (suc m) bs) (append_assoc (parameter_text p) (parameters_text ps) (62 ∷ rest)) ∙ here

some_parameter : (p : ParameterTree) → 0 < length (parameter_text p)
some_parameter p = omega (arith, length-append p.name (58 ∷ (bound_text p.class_bound ++ bounds_text p.bounds)))

parameters_fit : (ps : List ParameterTree) → length ps ≤ length (parameters_text ps)
parameters_fit [] = omega arith
parameters_fit (p ∷ ps) = omega (arith, length-append (parameter_text p) (parameters_text ps), some_parameter p, parameters_fit ps)

pub type_parameters_again : (ps : List ParameterTree) (rest : List ℕ) → AllByRecursion IsParameter ps → behind 60 rest ≡ None → type_parameters_from (type_parameters_text ps ++ rest) ≡ Some (ps, rest)
unfolding type_parameters_from
type_parameters_again [] rest h c = rw c refl
type_parameters_again (p ∷ ps) rest h c =
    let all : List ParameterTree = p ∷ ps in
    let text : List ℕ = parameters_text all ++ 62 ∷ rest in
    let same : (parameter_text p ++ (parameters_text ps ++ 62 ∷ [])) ++ rest ≡ text = simp append_assoc in
    let few : length all < length text = omega (arith, length-append (parameters_text all) (62 ∷ rest), parameters_fit all) in
    let read = parameters_again all (length text) rest few h in
    let here : type_parameters_from (60 ∷ text) ≡ Some (all, rest) = rw read refl in
    ap (λ (bs : List ℕ). type_parameters_from (60 ∷ bs)) same ∙ here

-- ---- classes

class_first : (c : ClassTree) (rest : List ℕ) → (behind 60 (class_text c ++ rest) ≡ None) × (is_nil (class_text c ++ rest) ≡ false) × (0 < length (class_text c))
class_first (class_tree names ps) rest = (refl, refl, let q : 0 < suc (length (package_text names ++ (parts_text ps ++ 59 ∷ []))) = omega arith in q)

classes_again : (cs : List ClassTree) (m : ℕ) → length cs ≤ m → AllByRecursion IsTopClass cs → classes_of m (classes_text cs) ≡ Some cs
unfolding classes_of
classes_again [] zero l h = refl
classes_again [] (suc m) l h = refl
classes_again (c ∷ cs) zero l h = absurd (omega arith)
classes_again (c ∷ cs) (suc m) l h =
    let ih = classes_again cs m (let k : suc (length cs) ≤ suc m = l in omega arith) h.1 in
    rw ((class_first c (classes_text cs)).1, top_class_again c (classes_text cs) h.0, ih) refl

classes_fit : (cs : List ClassTree) → length cs ≤ length (classes_text cs)
classes_fit [] = omega arith
classes_fit (c ∷ cs) = omega (arith, length-append (class_text c) (classes_text cs), (class_first c []).2, classes_fit cs)

pub class_sig_again : (bytes : List ℕ) (s : ClassSigTree) → SpellsClassSig bytes s → class_sig_of bytes ≡ Some s
unfolding class_sig_of
class_sig_again bytes s h =
    let rest : List ℕ = class_text s.superclass ++ classes_text s.interfaces in
    let parameters = type_parameters_again s.parameters rest h.0.parameters (class_first s.superclass (classes_text s.interfaces)).0 in
    let superclass = top_class_again s.superclass (classes_text s.interfaces) h.0.superclass in
    let interfaces = classes_again s.interfaces (length (classes_text s.interfaces)) (classes_fit s.interfaces) h.0.interfaces in
    let here : class_sig_of (type_parameters_text s.parameters ++ rest) ≡ Some s = rw (parameters, superclass, interfaces) refl in
    ap (λ (bs : List ℕ). class_sig_of bs) h.1 ∙ here

-- ---- methods

-- a byte that is no letter of a type isn't a type's first
base_first : (byte letter : ℕ) (rest : List ℕ) → is_base byte ≡ false → is_base letter ≡ true → behind byte (letter ∷ rest) ≡ None
base_first byte letter rest f h = go (nat_eq letter byte) refl where
  go : (t : Bool) → nat_eq letter byte ≡ t → behind byte (letter ∷ rest) ≡ None
  go true e = absurd (let q : is_base byte ≡ true = subst (λ (k : ℕ). is_base k ≡ true) (eqb-true letter byte e) h in cc)
  go false e = rw e refl

close_first : (t : TypeTree) (rest : List ℕ) → IsTop t → behind 41 (type_text t ++ rest) ≡ None
close_first (base letter) rest h = base_first 41 letter rest refl h
close_first (variable name) rest h = refl
close_first (array t) rest h = refl
close_first (class (class_tree names ps)) rest h = refl

void_first : (t : TypeTree) (rest : List ℕ) → IsTop t → behind 86 (type_text t ++ rest) ≡ None
void_first (base letter) rest h = base_first 86 letter rest refl h
void_first (variable name) rest h = refl
void_first (array t) rest h = refl
void_first (class (class_tree names ps)) rest h = refl

pub types_again : (ts : List TypeTree) (m : ℕ) (rest : List ℕ) → length ts < m → AllByRecursion IsTop ts → types_from m (types_text ts ++ 41 ∷ rest) ≡ Some (ts, rest)
unfolding types_from
types_again [] zero rest l h = absurd (omega arith)
types_again (t ∷ ts) zero rest l h = absurd (omega arith)
types_again [] (suc m) rest l h = refl
types_again (t ∷ ts) (suc m) rest l h =
    let after : List ℕ = types_text ts ++ 41 ∷ rest in
    let ih = types_again ts m rest (let k : suc (length ts) < suc m = l in omega arith) h.1 in
    let here : types_from (suc m) (type_text t ++ after) ≡ Some (t ∷ ts, rest) = rw (close_first t after h.0, top_again t after h.0, ih) refl in
    ap (λ (bs : List ℕ). types_from (suc m) bs) (append_assoc (type_text t) (types_text ts) (41 ∷ rest)) ∙ here

types_fit : (ts : List TypeTree) → length ts ≤ length (types_text ts)
types_fit [] = omega arith
types_fit (t ∷ ts) = omega (arith, length-append (type_text t) (types_text ts), some_type t, types_fit ts)

pub result_again : (o : Option TypeTree) (rest : List ℕ) → IfSome o IsTop → result_from (result_text o ++ rest) ≡ Some (o, rest)
unfolding result_from
result_again None rest h = refl
result_again (Some t) rest h = rw (void_first t rest h, top_again t rest h) refl

throws_again : (ts : List TypeTree) (m : ℕ) → length ts ≤ m → AllByRecursion IsThrown ts → throws_of m (throws_text ts) ≡ Some ts
unfolding throws_of thrown_from
throws_again [] zero l h = refl
throws_again [] (suc m) l h = refl
throws_again (t ∷ ts) zero l h = absurd (omega arith)
throws_again (t ∷ ts) (suc m) l h =
    let ih = throws_again ts m (let k : suc (length ts) ≤ suc m = l in omega arith) h.1 in
    rw (top_again t (throws_text ts) h.0.1, h.0.0, ih) refl

throws_fit : (ts : List TypeTree) → length ts ≤ length (throws_text ts)
throws_fit [] = omega arith
throws_fit (t ∷ ts) = let q : suc (length ts) ≤ suc (length (type_text t ++ throws_text ts)) = omega (arith, length-append (type_text t) (throws_text ts), throws_fit ts) in q

pub method_sig_again : (bytes : List ℕ) (s : MethodSigTree) → SpellsMethodSig bytes s → method_sig_of bytes ≡ Some s
unfolding method_sig_of
method_sig_again bytes s h =
    let last : List ℕ = throws_text s.throws in
    let tail : List ℕ = types_text s.arguments ++ 41 ∷ (result_text s.result ++ last) in
    let parameters = type_parameters_again s.parameters (40 ∷ tail) h.0.parameters refl in
    let few : length s.arguments < length tail = omega (arith, length-append (types_text s.arguments) (41 ∷ (result_text s.result ++ last)), types_fit s.arguments) in
    let arguments = types_again s.arguments (length tail) (result_text s.result ++ last) few h.0.arguments in
    let outcome = result_again s.result last h.0.result in
    let throws = throws_again s.throws (length last) (throws_fit s.throws) h.0.throws in
    let here : method_sig_of (type_parameters_text s.parameters ++ 40 ∷ tail) ≡ Some s = rw (parameters, arguments, outcome, throws) refl in
    ap (λ (bs : List ℕ). method_sig_of bs) h.1 ∙ here

-- ---- fields

pub field_sig_again : (bytes : List ℕ) (t : TypeTree) → SpellsFieldSig bytes t → field_sig_of bytes ≡ Some t
unfolding field_sig_of
field_sig_again bytes t h =
    let e : bytes ≡ type_text t ++ [] = h.1 ∙ sym (append-nil (type_text t)) in
    rw (e, bound_again t [] h.0) refl
