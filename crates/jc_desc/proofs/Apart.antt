-- Descriptors of fields, descriptors of methods and class names are told apart.
use Rattle.std.proofs.Common.{◌≡◌, ◌≢◌, ℕ, suc, zero, Bool, true, false, nat_eq, List, [], ◌∷◌, ◌++◌, Some, None, refl, sym, ap, subst, ◌∙◌}
use Rattle.std.proofs.lemmas.Bool.{eqb-true}
use Rattle.jc_desc.specs.Names.{spells_class_name}
use Rattle.jc_desc.specs.Pool.{names_array}
use Rattle.jc_desc.specs.Types.{Basic, byte, char, double, float, int, long, short, boolean, class, TypeOf, Method, basic_text, brackets, type_text, method_text, IsType, IsMethod}
use Rattle.jc_desc.specs.Reading.{field_of, method_of, behind_open}
use Rattle.jc_desc.proofs.Again.{field_again}
use Rattle.jc_desc.proofs.Methods.{method_again}

pub one_type : (s t : TypeOf) → IsType s → IsType t → type_text s ≡ type_text t → s ≡ t
one_type s t hs ht e =
    let a : field_of (type_text s) ≡ Some s = field_again (type_text s) s (hs, refl) in
    let b : field_of (type_text s) ≡ Some t = field_again (type_text s) t (ht, e) in
    cc

pub one_method : (m n : Method) → IsMethod m → IsMethod n → method_text m ≡ method_text n → m ≡ n
one_method m n hm hn e =
    let a : method_of (method_text m) ≡ Some m = method_again (method_text m) m (hm, refl) in
    let b : method_of (method_text m) ≡ Some n = method_again (method_text m) n (hn, e) in
    cc

no_open : (n : ℕ) (b : Basic) → behind_open (brackets n ++ basic_text b) ≡ None
no_open (suc n) b = refl
no_open zero byte = refl
no_open zero char = refl
no_open zero double = refl
no_open zero float = refl
no_open zero int = refl
no_open zero long = refl
no_open zero short = refl
no_open zero boolean = refl
no_open zero (class name) = refl

pub apart : (t : TypeOf) (m : Method) → type_text t ≢ method_text m
apart t m e =
    let a : behind_open (method_text m) ≡ None = ap (λ (bs : List ℕ). behind_open bs) (sym e) ∙ no_open t.dims t.base in
    absurd cc

open_is_false : (b : ℕ) (bs : List ℕ) → spells_class_name (b ∷ bs) ≡ true → nat_eq b 91 ≡ false
open_is_false b bs h = go (nat_eq b 91) refl where
  go : (t : Bool) → nat_eq b 91 ≡ t → t ≡ false
  go true e = absurd (let q : spells_class_name (91 ∷ bs) ≡ true = subst (λ (k : ℕ). spells_class_name (k ∷ bs) ≡ true) (eqb-true b 91 e) h in cc)
  go false e = refl

pub no_array : (name : List ℕ) → spells_class_name name ≡ true → names_array name ≡ false
no_array [] h = refl
no_array (b ∷ bs) h = rw (open_is_false b bs h) refl
