-- One level of a type: what its first byte leads to, and its tree.
use Rattle.std.proofs.Common.{◌≡◌, ℕ, suc, zero, ◌-◌, false, nat_eq, List, [], ◌∷◌, length, map, Some, refl, sym, ap, ◌∙◌, arith, rules}
use Rattle.jc_sig.specs.declared.tree.ClassType.{ClassType}
use Rattle.jc_sig.specs.declared.tree.Argument.{Argument, the_lemmas}
use Rattle.jc_sig.specs.declared.tree.TypeSig.{Class}
use Rattle.jc_sig.specs.Trees.{class, TypeTree}
use Rattle.jc_sig.specs.Reading.{ReadType, behind, class_from, list_from, arguments_from, type_from}
use Rattle.jc_sig.specs.Views.{type_view, class_view, argument_view, arguments_of}

pub view-Class : (c : ClassType) → type_view (Class c) ≡ class (class_view c)
view-Class c = search (rules, the_lemmas)

-- a class type
pub type_class : (n : ℕ) (bytes : List ℕ) (b : ℕ) (rest : List ℕ) (c : ClassType) (next : List ℕ) → (n ≡ 0 → ⊥) → bytes ≡ b ∷ rest → b ≡ 76 → class_from (type_from (n - 1)) rest ≡ Some (class_view c, next)
    → Some (type_view (Class c), next) ≡ type_from n bytes
unfolding type_from
type_class zero bytes b rest c next h e k r = absurd (h refl)
type_class (suc n) bytes b rest c next h e k r =
    let s : suc n - 1 ≡ n = omega arith in
    let there : class_from (type_from n) rest ≡ Some (class_view c, next) = ap (λ (m : ℕ). class_from (type_from m) rest) (sym s) ∙ r in
    let read : type_from (suc n) bytes ≡ Some (class (class_view c), next) = rw (e, k, there) refl in
    ap (λ (t : TypeTree). Some (t, next)) (view-Class c) ∙ sym read

-- arguments that are there
pub arguments_some : (type : ReadType) (bytes rest next : List ℕ) (args : List Argument) (n : ℕ) → behind 60 bytes ≡ Some rest → list_from type (length rest) rest ≡ Some (arguments_of (map argument_view args), next) → length args ≡ n → false ≡ nat_eq n 0
    → Some (arguments_of (map argument_view args), next) ≡ arguments_from type bytes
unfolding arguments_from
arguments_some type bytes rest next [] zero c r l e = absurd (cc)
arguments_some type bytes rest next [] (suc n) c r l e = absurd (omega arith)
arguments_some type bytes rest next (a ∷ args) n c r l e = rw (c, r) refl
