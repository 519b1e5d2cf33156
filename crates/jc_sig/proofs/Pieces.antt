-- Single bytes and identifiers in front of bytes.
use Rattle.std.proofs.Common.{◌≡◌, ℕ, suc, zero, ◌+◌, ◌<◌, Bool, true, false, not, nat_eq, List, [], ◌∷◌, ◌++◌, length, take, drop, Some, None, refl, sym, ap, subst, ◌∙◌, arith, inl, inr, append_assoc}
use Rattle.std.proofs.lemmas.Bool.{eqb-true, ne_eqb, and_parts, and_from}
use Rattle.std.proofs.lemmas.List.{take_at, drop_at, take-append-drop}
use Rattle.std.specs.List.{list_all}
use Rattle.jc_desc.specs.Names.{is_nil}
use Rattle.jc_desc.specs.Reading.{◌>>=◌}
use Rattle.jc_desc.proofs.Grammar.{bind_some, chosen}
use Rattle.jc_sig.specs.Trees.{package_text}
use Rattle.jc_sig.specs.Grammar.{is_identifier_byte, is_identifier}
use Rattle.jc_sig.specs.Reading.{Read, behind, name_len, name_from, name_before, more_names, package_from}

-- ---- what is read stands there

pub behind_is : (byte : ℕ) (bytes rest : List ℕ) → behind byte bytes ≡ Some rest → bytes ≡ byte ∷ rest
behind_is byte [] rest e = absurd cc
behind_is byte (b ∷ bs) rest e = elim (chosen (nat_eq b byte) _ _ _ e) [
  | inl a ↦ (let q : bs ≡ rest = (let g = a.1 in cc) in let k : b ≡ byte = eqb-true b byte a.0 in cc)
  | inr a ↦ absurd (let q : None ≡ Some rest = a.1 in cc)
]

abbrev AllFront : List ℕ → ℕ → Type 0
AllFront bytes n = list_all is_identifier_byte (take n bytes) ≡ true

all_step : (b : ℕ) (bs : List ℕ) (t : Bool) → is_identifier_byte b ≡ t → AllFront bs (name_len bs) → AllFront (b ∷ bs) (name_len (b ∷ bs))
all_step b bs true h ih =
    let e : name_len (b ∷ bs) ≡ suc (name_len bs) = rw h (let s : 1 + name_len bs ≡ suc (name_len bs) = omega arith in s) in
    subst (AllFront (b ∷ bs)) (sym e) (and_from _ _ h ih)
all_step b bs false h ih =
    let e : name_len (b ∷ bs) ≡ 0 = rw h refl in
    subst (AllFront (b ∷ bs)) (sym e) refl

all_front : (bytes : List ℕ) → AllFront bytes (name_len bytes)
all_front [] = refl
all_front (b ∷ bs) = all_step b bs (is_identifier_byte b) refl (all_front bs)

some_front : (n : ℕ) (bytes : List ℕ) → nat_eq (name_len bytes) 0 ≡ false → name_len bytes ≡ n → not (is_nil (take n bytes)) ≡ true
some_front n [] h e = absurd (cc)
some_front zero (b ∷ bs) h e = absurd (let g : nat_eq 0 0 ≡ false = subst (λ (k : ℕ). nat_eq k 0 ≡ false) e h in cc)
some_front (suc n) (b ∷ bs) h e = refl

abbrev pub NameAt : List ℕ → List ℕ × List ℕ → Type 0
NameAt bytes x = (is_identifier x.0 ≡ true) × (bytes ≡ x.0 ++ x.1)

pub name_is : (bytes : List ℕ) (x : List ℕ × List ℕ) → name_from bytes ≡ Some x → NameAt bytes x
unfolding name_from
name_is bytes x e = elim (chosen (nat_eq (name_len bytes) 0) _ _ _ e) [
  | inl a ↦ absurd (let q : None ≡ Some x = a.1 in cc)
  | inr a ↦
      let q : (take (name_len bytes) bytes, drop (name_len bytes) bytes) ≡ x = (let g = a.1 in cc) in
      subst (NameAt bytes) q (and_from _ _ (some_front (name_len bytes) bytes a.0 refl) (all_front bytes), sym (take-append-drop (name_len bytes) bytes))
]

-- an identifier with this byte behind it
abbrev pub NameBefore : ℕ → List ℕ → List ℕ × List ℕ → Type 0
NameBefore byte bytes x = (is_identifier x.0 ≡ true) × (bytes ≡ x.0 ++ byte ∷ x.1)

pub name_before_is : (byte : ℕ) (bytes : List ℕ) (x : List ℕ × List ℕ) → name_before byte bytes ≡ Some x → NameBefore byte bytes x
unfolding name_before
name_before_is byte bytes x e =
    let a = bind_some (name_from bytes) (λ (name : List ℕ × List ℕ). behind byte name.1 >>= λ rest. Some (name.0, rest)) x e in
    let b = bind_some (behind byte a.0.1) (λ (rest : List ℕ). Some (a.0.0, rest)) x a.2 in
    let q : (a.0.0, b.0) ≡ x = (let g = b.2 in cc) in
    let n = name_is bytes a.0 a.1 in
    subst (NameBefore byte bytes) q (n.0, n.1 ∙ ap (λ (bs : List ℕ). a.0.0 ++ bs) (behind_is byte a.0.1 b.0 b.1))

abbrev pub PackageAt : List ℕ → List (List ℕ) × List ℕ → Type 0
PackageAt bytes x = (list_all is_identifier x.0 ≡ true) × (bytes ≡ package_text x.0 ++ x.1)

names_is : (more : List ℕ → List (List ℕ) × List ℕ) (bytes : List ℕ) (o : Read (List ℕ)) → name_before 47 bytes ≡ o → ((bs : List ℕ) → PackageAt bs (more bs)) → PackageAt bytes (more_names more bytes o)
names_is more bytes None e h = (refl, refl)
names_is more bytes (Some x) e h =
    let n = name_before_is 47 bytes x e in
    let r = h x.1 in
    (and_from _ _ n.0 r.0, n.1 ∙ ap (λ (bs : List ℕ). x.0 ++ 47 ∷ bs) r.1 ∙ sym (append_assoc x.0 (47 ∷ package_text (more x.1).0) (more x.1).1))

pub package_is : (n : ℕ) (bytes : List ℕ) → PackageAt bytes (package_from n bytes)
unfolding package_from
package_is zero bytes = (refl, refl)
package_is (suc n) bytes = names_is (package_from n) bytes (name_before 47 bytes) refl (package_is n)

-- ---- what stands there is read

-- what is in front can't be of an identifier
abbrev pub stops : List ℕ → Bool
stops [] = true
stops (b ∷ bs) = not (is_identifier_byte b)

stopped : (rest : List ℕ) → stops rest ≡ true → name_len rest ≡ 0
stopped [] h = refl
stopped (b ∷ bs) h = go (is_identifier_byte b) refl h where
  go : (t : Bool) → is_identifier_byte b ≡ t → not t ≡ true → name_len (b ∷ bs) ≡ 0
  go true e h = absurd cc
  go false e h = rw e refl

pub end_of_name : (name rest : List ℕ) → list_all is_identifier_byte name ≡ true → stops rest ≡ true → name_len (name ++ rest) ≡ length name
end_of_name [] rest h s = stopped rest s
end_of_name (b ∷ bs) rest h s =
    let p = and_parts (is_identifier_byte b) (list_all is_identifier_byte bs) h in
    let ih = end_of_name bs rest p.1 s in
    rw p.0 (let q : 1 + name_len (bs ++ rest) ≡ suc (length bs) = omega (arith, ih) in q)

some_len : (name : List ℕ) → not (is_nil name) ≡ true → nat_eq (length name) 0 ≡ false
some_len [] h = absurd cc
some_len (b ∷ bs) h = ne_eqb (length (b ∷ bs)) 0 (λ e. absurd (let q : suc (length bs) ≡ 0 = e in omega arith))

pub name_again : (name rest : List ℕ) → is_identifier name ≡ true → stops rest ≡ true → name_from (name ++ rest) ≡ Some (name, rest)
unfolding name_from
name_again name rest h s =
    let p = and_parts (not (is_nil name)) (list_all is_identifier_byte name) h in
    let e = end_of_name name rest p.1 s in
    let some = some_len name p.0 in
    let front : take (length name) (name ++ rest) ≡ name = take_at name rest (length name) refl in
    let back : drop (length name) (name ++ rest) ≡ rest = drop_at name rest (length name) refl in
    rw (e, some, front, back) refl

-- the byte can't be of an identifier, and behind it anything stands
pub name_before_again : (byte : ℕ) (name rest : List ℕ) → is_identifier name ≡ true → is_identifier_byte byte ≡ false → nat_eq byte byte ≡ true → name_before byte (name ++ byte ∷ rest) ≡ Some (name, rest)
unfolding name_before
name_before_again byte name rest h s k =
    let e = name_again name (byte ∷ rest) h (rw s refl) in
    rw (e, k) refl

-- an identifier with another byte behind it
pub not_before : (byte : ℕ) (name rest : List ℕ) → is_identifier name ≡ true → stops rest ≡ true → behind byte rest ≡ None → name_before byte (name ++ rest) ≡ None
unfolding name_before
not_before byte name rest h s k = let e = name_again name rest h s in rw (e, k) refl

pub package_again : (n : ℕ) (names : List (List ℕ)) (rest : List ℕ) → length names < n → list_all is_identifier names ≡ true → name_before 47 rest ≡ None → package_from n (package_text names ++ rest) ≡ (names, rest)
unfolding package_from
package_again zero names rest l h s = absurd (omega arith)
package_again (suc n) [] rest l h s = rw s refl
package_again (suc n) (name ∷ names) rest l h s =
    let p = and_parts (is_identifier name) (list_all is_identifier names) h in
    let ih = package_again n names rest (let k : suc (length names) < suc n = l in omega arith) p.1 s in
    let first : name_before 47 (name ++ 47 ∷ (package_text names ++ rest)) ≡ Some (name, package_text names ++ rest) = name_before_again 47 name (package_text names ++ rest) p.0 refl refl in
    let here : package_from (suc n) (name ++ 47 ∷ (package_text names ++ rest)) ≡ (name ∷ names, rest) = rw (first, ih) refl in
    ap (λ (bs : List ℕ). package_from (suc n) bs) (append_assoc name (47 ∷ package_text names) rest) ∙ here
