-- Each reading of the grammar obeys the rule for the bound that may be a class.
use Rattle.std.proofs.Common.{◌≡◌, ℕ, suc, zero, Bool, true, false, cond, not, ◌&&◌, ◌||◌, nat_eq, List, [], ◌∷◌, ◌++◌, refl, ap, subst, ◌∙◌, append_assoc}
use Rattle.std.proofs.lemmas.Bool.{and_parts, and_from, eqb-true, not-true}
use Rattle.std.specs.List.{list_all}
use Rattle.jc_desc.specs.Names.{is_nil}
use Rattle.jc_sig.specs.Trees.{TypeTree, base, variable, array, class, class_tree, Parts, no_parts, part, PartTree, part_tree, Arguments, no_arguments, argument, ArgumentTree, any, exact, upper, lower, package_text, type_text, parts_text, members_text, part_text, arguments_text, list_text, argument_text}
use Rattle.jc_sig.specs.Grammar.{is_identifier_byte, is_identifier, is_base, IsType, IsClass, AreParts, IsPart, AreArguments, IsArgument, IsBound}
use Rattle.jc_sig.specs.Rule.{semicolon_before_colon, is_bound_by_rule}

-- no : is among them
abbrev no_colon : ℕ → Bool
no_colon b = not (nat_eq b 58)

abbrev clean : List ℕ → Bool
clean bytes = list_all no_colon bytes

clean_append : (xs ys : List ℕ) → clean xs ≡ true → clean ys ≡ true → clean (xs ++ ys) ≡ true
clean_append [] ys h k = k
clean_append (x ∷ xs) ys h k = let p = and_parts (no_colon x) (clean xs) h in and_from _ _ p.0 (clean_append xs ys p.1 k)

byte_clean : (b : ℕ) → is_identifier_byte b ≡ true → no_colon b ≡ true
byte_clean b h = go (nat_eq b 58) refl where
  go : (t : Bool) → nat_eq b 58 ≡ t → not t ≡ true
  go true e = absurd (let q : is_identifier_byte 58 ≡ true = subst (λ (k : ℕ). is_identifier_byte k ≡ true) (eqb-true b 58 e) h in cc)
  go false e = refl

bytes_clean : (name : List ℕ) → list_all is_identifier_byte name ≡ true → clean name ≡ true
bytes_clean [] h = refl
bytes_clean (b ∷ bs) h = let p = and_parts (is_identifier_byte b) (list_all is_identifier_byte bs) h in and_from _ _ (byte_clean b p.0) (bytes_clean bs p.1)

name_clean : (name : List ℕ) → is_identifier name ≡ true → clean name ≡ true
name_clean name h = bytes_clean name (and_parts (not (is_nil name)) (list_all is_identifier_byte name) h).1

package_clean : (names : List (List ℕ)) → list_all is_identifier names ≡ true → clean (package_text names) ≡ true
package_clean [] h = refl
package_clean (name ∷ names) h = let p = and_parts (is_identifier name) (list_all is_identifier names) h in clean_append name (47 ∷ package_text names) (name_clean name p.0) (package_clean names p.1)

base_clean : (letter : ℕ) → is_base letter ≡ true → no_colon letter ≡ true
base_clean b h = go (nat_eq b 58) refl where
  go : (t : Bool) → nat_eq b 58 ≡ t → not t ≡ true
  go true e = absurd (let q : is_base 58 ≡ true = subst (λ (k : ℕ). is_base k ≡ true) (eqb-true b 58 e) h in cc)
  go false e = refl

module _ (n : ℕ) (below : (t : TypeTree) → IsType n t → clean (type_text t) ≡ true) where
  argument_clean : (a : ArgumentTree) → IsArgument n a → clean (argument_text a) ≡ true
  argument_clean any h = refl
  argument_clean (exact t) h = below t h.1
  argument_clean (upper t) h = below t h.1
  argument_clean (lower t) h = below t h.1

  list_clean : (args : Arguments) → AreArguments n args → clean (list_text args) ≡ true
  list_clean no_arguments h = refl
  list_clean (argument a args) h = clean_append (argument_text a) (list_text args) (argument_clean a h.0) (list_clean args h.1)

  arguments_clean : (args : Arguments) → AreArguments n args → clean (arguments_text args) ≡ true
  arguments_clean no_arguments h = refl
  arguments_clean (argument a args) h = clean_append (argument_text a) (list_text args ++ 62 ∷ []) (argument_clean a h.0) (clean_append (list_text args) (62 ∷ []) (list_clean args h.1) refl)

  part_clean : (p : PartTree) → IsPart n p → clean (part_text p) ≡ true
  part_clean (part_tree name args) h = clean_append name (arguments_text args) (name_clean name h.0) (arguments_clean args h.1)

  members_clean : (ps : Parts) → AreParts n ps → clean (members_text ps) ≡ true
  members_clean no_parts h = refl
  members_clean (part p ps) h = clean_append (part_text p) (members_text ps) (part_clean p h.0) (members_clean ps h.1)

  parts_clean : (ps : Parts) → AreParts n ps → clean (parts_text ps) ≡ true
  parts_clean no_parts h = refl
  parts_clean (part p ps) h = clean_append (part_text p) (members_text ps) (part_clean p h.0) (members_clean ps h.1)

  -- up to the ; at the end
  front_clean : (names : List (List ℕ)) (ps : Parts) → IsClass n (class_tree names ps) → clean (package_text names ++ parts_text ps) ≡ true
  front_clean names ps h = clean_append (package_text names) (parts_text ps) (package_clean names h.0) (parts_clean ps h.2)

  one_clean : (t : TypeTree) → IsType (suc n) t → clean (type_text t) ≡ true
  one_clean (base letter) h = and_from _ _ (base_clean letter h) refl
  one_clean (variable name) h = clean_append name (59 ∷ []) (name_clean name h) refl
  one_clean (array t) h = below t h
  one_clean (class (class_tree names ps)) h =
      clean_append (package_text names) (parts_text ps ++ 59 ∷ []) (package_clean names h.0) (clean_append (parts_text ps) (59 ∷ []) (parts_clean ps h.2) refl)

type_clean : (n : ℕ) (t : TypeTree) → IsType n t → clean (type_text t) ≡ true
type_clean zero t h = absurd h
type_clean (suc n) t h = one_clean n (type_clean n) t h

-- a ; comes before the next :
semicolon_next : (xs rest : List ℕ) → clean xs ≡ true → semicolon_before_colon (xs ++ 59 ∷ rest) ≡ true
semicolon_next [] rest h = refl
semicolon_next (x ∷ xs) rest h =
    let p = and_parts (no_colon x) (clean xs) h in
    go (nat_eq x 59) (nat_eq x 58) (not-true (nat_eq x 58) p.0) (semicolon_next xs rest p.1)
  where
    go : (s t : Bool) → t ≡ false → semicolon_before_colon (xs ++ 59 ∷ rest) ≡ true → cond s true (cond t false (semicolon_before_colon (xs ++ 59 ∷ rest))) ≡ true
    go true t e h = refl
    go false true e h = absurd (cc)
    go false false e h = h

pub bound_obeys : (t : TypeTree) (rest : List ℕ) → IsBound t → is_bound_by_rule (type_text t ++ rest) ≡ true
bound_obeys (base letter) rest h = absurd (let q : false ≡ true = h.0 in cc)
bound_obeys (array t) rest h = refl
bound_obeys (variable name) rest h = ap (λ (bs : List ℕ). semicolon_before_colon bs) (append_assoc name (59 ∷ []) rest) ∙ semicolon_next name rest (name_clean name h.1)
bound_obeys (class (class_tree names ps)) rest h =
    let same : (package_text names ++ (parts_text ps ++ 59 ∷ [])) ++ rest ≡ (package_text names ++ parts_text ps) ++ 59 ∷ rest = simp append_assoc in
    ap (λ (bs : List ℕ). semicolon_before_colon bs) same ∙ semicolon_next (package_text names ++ parts_text ps) rest (front_clean 199 (type_clean 199) names ps h.1)

-- no ; comes before the : behind a name
colon_next : (name rest : List ℕ) → list_all is_identifier_byte name ≡ true → semicolon_before_colon (name ++ 58 ∷ rest) ≡ false
colon_next [] rest h = refl
colon_next (b ∷ bs) rest h =
    let p = and_parts (is_identifier_byte b) (list_all is_identifier_byte bs) h in
    go (nat_eq b 59) refl (nat_eq b 58) (colon_next bs rest p.1)
  where
    go : (s : Bool) → nat_eq b 59 ≡ s → (t : Bool) → semicolon_before_colon (bs ++ 58 ∷ rest) ≡ false → cond s true (cond t false (semicolon_before_colon (bs ++ 58 ∷ rest))) ≡ false
    go true e t k = absurd (let q : is_identifier_byte 59 ≡ true = subst (λ (x : ℕ). is_identifier_byte x ≡ true) (eqb-true b 59 e) (and_parts (is_identifier_byte b) (list_all is_identifier_byte bs) h).0 in cc)
    go false e true k = refl
    go false e false k = k

letter_or : (a b c s : Bool) → a ≡ false → s ≡ false → (a || ((b || c) && s)) ≡ false
letter_or true b c s e f = absurd (cc)
letter_or false true c s e f = f
letter_or false false true s e f = f
letter_or false false false s e f = refl

pub name_obeys : (name rest : List ℕ) → is_identifier name ≡ true → is_bound_by_rule (name ++ 58 ∷ rest) ≡ false
name_obeys [] rest h = absurd cc
name_obeys (b ∷ bs) rest h =
    let all = (and_parts (not (is_nil (b ∷ bs))) (list_all is_identifier_byte (b ∷ bs)) h).1 in
    let p = and_parts (is_identifier_byte b) (list_all is_identifier_byte bs) all in
    letter_or (nat_eq b 91) (nat_eq b 76) (nat_eq b 84) (semicolon_before_colon (bs ++ 58 ∷ rest)) (go (nat_eq b 91) refl p.0) (colon_next bs rest p.1)
  where
    go : (t : Bool) → nat_eq b 91 ≡ t → is_identifier_byte b ≡ true → t ≡ false
    go true e k = absurd (let q : is_identifier_byte 91 ≡ true = subst (λ (x : ℕ). is_identifier_byte x ≡ true) (eqb-true b 91 e) k in cc)
    go false e k = refl
