-- What is read is exactly what is spelled, and a text has one tree.
use Rattle.std.proofs.Common.{◌≡◌, ◌↔◌, ℕ, suc, ◌+◌, ◌<◌, List, [], ◌∷◌, ◌++◌, length, Option, Some, None, IfSome, IfNone, refl, sym, ap, ◌∙◌, arith}
use Rattle.std.specs.List.{AllByRecursion}
use Rattle.std.specs.Option.{option_map}
use Rattle.std.proofs.lemmas.Option.{same_Some}
use Rattle.jc_sig.specs.Trees.{TypeTree, ClassTree, ParameterTree, ClassSigTree, MethodSigTree, type_text, class_text, types_text, type_parameters_text, result_text, class_sig_text, method_sig_text}
use Rattle.jc_sig.specs.Grammar.{IsTop, IsTopClass, IsParameter, IsClassSig, IsMethodSig, IsFieldSig, SpellsClassSig, SpellsMethodSig, SpellsFieldSig}
use Rattle.jc_sig.specs.Reading.{top_class_from, type_parameters_from, types_from, result_from, class_sig_of, method_sig_of, field_sig_of}
use Rattle.jc_sig.proofs.SoundSigs.{class_sig_is, method_sig_is, field_sig_is}
use Rattle.jc_sig.proofs.AgainSigs.{top_class_again, type_parameters_again, types_again, result_again, class_sig_again, method_sig_again, field_sig_again}

-- one text, read, is one tree
pub one_tree : {A : Type 0} (Is : A → Type 0) (text : A → List ℕ) (read : List ℕ → Option A) → ((bytes : List ℕ) (x : A) → (Is x × (bytes ≡ text x)) → read bytes ≡ Some x) → (x y : A) → Is x → Is y → text x ≡ text y → x ≡ y
one_tree Is text read again x y hx hy e = same_Some x y (sym (again (text x) x (hx, refl)) ∙ again (text x) y (hy, e))

pub found : {X A : Type 0} (view : X → A) (Is : A → Type 0) (text : A → List ℕ) (read : List ℕ → Option A) → ((bytes : List ℕ) (x : A) → read bytes ≡ Some x → Is x × (bytes ≡ text x))
    → (r : Option X) (bytes : List ℕ) → option_map view r ≡ read bytes → IfSome r (λ x. Is (view x) × (bytes ≡ text (view x)))
found view Is text read is None bytes e = tt
found view Is text read is (Some x) bytes e = is bytes (view x) (sym e)

pub none : {X A : Type 0} (view : X → A) (Is : A → Type 0) (text : A → List ℕ) (read : List ℕ → Option A) → ((bytes : List ℕ) (x : A) → (Is x × (bytes ≡ text x)) → read bytes ≡ Some x)
    → (r : Option X) (bytes : List ℕ) → option_map view r ≡ read bytes → IfNone r ((x : A) → (Is x × (bytes ≡ text x)) → ⊥)
none view Is text read again None bytes e = λ x h. absurd (let q : None ≡ Some x = e ∙ again bytes x h in cc)
none view Is text read again (Some x) bytes e = tt

pub class_reads : (bytes : List ℕ) (s : ClassSigTree) → (class_sig_of bytes ≡ Some s) ↔ SpellsClassSig bytes s
class_reads bytes s = (class_sig_is bytes s, class_sig_again bytes s)

pub method_reads : (bytes : List ℕ) (s : MethodSigTree) → (method_sig_of bytes ≡ Some s) ↔ SpellsMethodSig bytes s
method_reads bytes s = (method_sig_is bytes s, method_sig_again bytes s)

pub field_reads : (bytes : List ℕ) (t : TypeTree) → (field_sig_of bytes ≡ Some t) ↔ SpellsFieldSig bytes t
field_reads bytes t = (field_sig_is bytes t, field_sig_again bytes t)

pub class_one : (s t : ClassSigTree) → IsClassSig s → IsClassSig t → class_sig_text s ≡ class_sig_text t → s ≡ t
class_one = one_tree IsClassSig class_sig_text class_sig_of class_sig_again

pub method_one : (s t : MethodSigTree) → IsMethodSig s → IsMethodSig t → method_sig_text s ≡ method_sig_text t → s ≡ t
method_one = one_tree IsMethodSig method_sig_text method_sig_of method_sig_again

pub field_one : (s t : TypeTree) → IsFieldSig s → IsFieldSig t → type_text s ≡ type_text t → s ≡ t
field_one = one_tree IsFieldSig type_text field_sig_of field_sig_again

-- ---- reading and writing undo each other

pub class_read_back : (s : ClassSigTree) → IsClassSig s → class_sig_of (class_sig_text s) ≡ Some s
class_read_back s h = class_sig_again (class_sig_text s) s (h, refl)

pub class_written_back : (bytes : List ℕ) (s : ClassSigTree) → class_sig_of bytes ≡ Some s → class_sig_text s ≡ bytes
class_written_back bytes s e = sym (class_sig_is bytes s e).1

pub method_read_back : (s : MethodSigTree) → IsMethodSig s → method_sig_of (method_sig_text s) ≡ Some s
method_read_back s h = method_sig_again (method_sig_text s) s (h, refl)

pub method_written_back : (bytes : List ℕ) (s : MethodSigTree) → method_sig_of bytes ≡ Some s → method_sig_text s ≡ bytes
method_written_back bytes s e = sym (method_sig_is bytes s e).1

pub field_read_back : (s : TypeTree) → IsFieldSig s → field_sig_of (type_text s) ≡ Some s
field_read_back s h = field_sig_again (type_text s) s (h, refl)

pub field_written_back : (bytes : List ℕ) (s : TypeTree) → field_sig_of bytes ≡ Some s → type_text s ≡ bytes
field_written_back bytes s e = sym (field_sig_is bytes s e).1

-- ---- parts of signatures

first_of_pair : {A : Type 0} (p q : A × List ℕ) → Some p ≡ Some q → p.0 ≡ q.0
first_of_pair {A} p q e = let s : p ≡ q = cc in ap (λ (x : A × List ℕ). x.0) s

first_same : {A : Type 0} (x y : A) (r s : List ℕ) → ◌≡◌ {A = Option (A × List ℕ)} (Some (x, r)) (Some (y, s)) → x ≡ y
first_same {A} x y r s e = first_of_pair (x, r) (y, s) e

pub one_type_parameters : (ps qs : List ParameterTree) → AllByRecursion IsParameter ps → AllByRecursion IsParameter qs → type_parameters_text ps ≡ type_parameters_text qs → ps ≡ qs
one_type_parameters ps qs hp hq e =
    first_same ps qs (40 ∷ []) (40 ∷ []) (sym (type_parameters_again ps (40 ∷ []) hp refl) ∙ ap (λ (t : List ℕ). type_parameters_from (t ++ 40 ∷ [])) e ∙ type_parameters_again qs (40 ∷ []) hq refl)

pub one_class : (c d : ClassTree) → IsTopClass c → IsTopClass d → class_text c ≡ class_text d → c ≡ d
one_class c d hc hd e = first_same c d [] [] (sym (top_class_again c [] hc) ∙ ap (λ (t : List ℕ). top_class_from (t ++ [])) e ∙ top_class_again d [] hd)

pub one_row : (ts us : List TypeTree) → AllByRecursion IsTop ts → AllByRecursion IsTop us → types_text ts ≡ types_text us → ts ≡ us
one_row ts us ht hu e =
    let n : ℕ = suc (length ts + length us) in
    first_same ts us [] []
    (sym (types_again ts n [] (let l : length ts < suc (length ts + length us) = omega arith in l) ht) ∙ ap (λ (t : List ℕ). types_from n (t ++ 41 ∷ [])) e ∙ types_again us n [] (let l : length us < suc (length ts + length us) = omega arith in l) hu)

pub one_result : (o p : Option TypeTree) → IfSome o IsTop → IfSome p IsTop → result_text o ≡ result_text p → o ≡ p
one_result o p ho hp e = first_same o p [] [] (sym (result_again o [] ho) ∙ ap (λ (t : List ℕ). result_from (t ++ [])) e ∙ result_again p [] hp)
