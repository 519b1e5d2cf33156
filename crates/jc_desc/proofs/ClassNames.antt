-- The test of a class name holds exactly where the bytes are parts joined by /.
use Rattle.std.proofs.Common.{◌≡◌, ℕ, Bool, true, false, not, ◌||◌, nat_eq, List, [], ◌∷◌, ◌++◌, refl, ap, subst, ◌∙◌, arith, inl, inr, IsTrue}
use Rattle.std.proofs.lemmas.Bool.{eqb-true, and_parts, and_from}
use Rattle.std.specs.List.{list_all}
use Rattle.std.proofs.Math.Bool.{or-true}
use Rattle.jc_desc.specs.Names.{is_byte_of_name, is_nil, is_name_part, joined_parts, IsClassName, is_rest_of_name, spells_class_name}
use Rattle.jc_desc.proofs.Grammar.{chosen}

-- the rest of a name, as the rest of its first part and the parts behind it
record RestOfName (begins : Bool) (bytes : List ℕ) : Type 0 where
  first : List ℕ
  others : List (List ℕ)
  letters : list_all is_byte_of_name first ≡ true
  some : (not begins || not (is_nil first)) ≡ true
  parts : list_all is_name_part others ≡ true
  whole : bytes ≡ joined_parts first others

longer : (b : ℕ) (first : List ℕ) (others : List (List ℕ)) → b ∷ joined_parts first others ≡ joined_parts (b ∷ first) others
longer b first [] = refl
longer b first (next ∷ others) = refl

rest_is : (begins : Bool) (bytes : List ℕ) → is_rest_of_name begins bytes ≡ true → RestOfName begins bytes
rest_is true [] h = absurd cc
rest_is false [] h = record { first = []; others = []; letters = refl; some = refl; parts = refl; whole = refl }
rest_is begins (b ∷ bs) h = elim (chosen (nat_eq b 47) _ _ _ h) [
  | inl a ↦
      let t = and_parts (not begins) (is_rest_of_name true bs) a.1 in
      let r = rest_is true bs t.1 in
      let slash : b ≡ 47 = eqb-true b 47 a.0 in
      record {
        first = [];
        others = r.first ∷ r.others;
        letters = refl;
        some = rw t.0 refl;
        parts = and_from _ _ (and_from _ _ r.some r.letters) r.parts;
        whole = rw slash (ap (λ (rest : List ℕ). 47 ∷ rest) r.whole);
      }
  | inr a ↦
      let t = and_parts (is_byte_of_name b) (is_rest_of_name false bs) a.1 in
      let r = rest_is false bs t.1 in
      record {
        first = b ∷ r.first;
        others = r.others;
        letters = and_from _ _ t.0 r.letters;
        some = or-true (not begins);
        parts = r.parts;
        whole = ap (λ (rest : List ℕ). b ∷ rest) r.whole ∙ longer b r.first r.others;
      }
]

no_slash : (b : ℕ) → is_byte_of_name b ≡ true → nat_eq b 47 ≡ false
no_slash b h = go (nat_eq b 47) refl where
  go : (t : Bool) → nat_eq b 47 ≡ t → t ≡ false
  go true e = absurd (let r : is_byte_of_name 47 ≡ true = subst (λ (k : ℕ). is_byte_of_name k ≡ true) (eqb-true b 47 e) h in cc)
  go false e = refl

-- the bytes of a part are passed over
passes : (begins : Bool) (part rest : List ℕ) → (not begins || not (is_nil part)) ≡ true → list_all is_byte_of_name part ≡ true → is_rest_of_name begins (part ++ rest) ≡ is_rest_of_name false rest
passes true [] rest s h = absurd cc
passes false [] rest s h = refl
passes begins (b ∷ bs) rest s h =
    let t = and_parts (is_byte_of_name b) (list_all is_byte_of_name bs) h in
    rw (t.0, no_slash b t.0) (passes false bs rest refl t.1)

joined_again : (first : List ℕ) (others : List (List ℕ)) → list_all is_name_part (first ∷ others) ≡ true → is_rest_of_name true (joined_parts first others) ≡ true
joined_again first [] h =
    let t = and_parts (is_name_part first) true h in
    let p = and_parts (not (is_nil first)) (list_all is_byte_of_name first) t.0 in
    whole_part first p.0 p.1 where
      whole_part : (part : List ℕ) → not (is_nil part) ≡ true → list_all is_byte_of_name part ≡ true → is_rest_of_name true part ≡ true
      whole_part [] s h = absurd cc
      whole_part (b ∷ bs) s h = let t = and_parts (is_byte_of_name b) (list_all is_byte_of_name bs) h in rw (t.0, no_slash b t.0) (ends bs t.1) where
        ends : (cs : List ℕ) → list_all is_byte_of_name cs ≡ true → is_rest_of_name false cs ≡ true
        ends [] h = refl
        ends (c ∷ cs) h = let t = and_parts (is_byte_of_name c) (list_all is_byte_of_name cs) h in rw (t.0, no_slash c t.0) (ends cs t.1)
joined_again first (next ∷ others) h =
    let t = and_parts (is_name_part first) (list_all is_name_part (next ∷ others)) h in
    let p = and_parts (not (is_nil first)) (list_all is_byte_of_name first) t.0 in
    passes true first (47 ∷ joined_parts next others) p.0 p.1 ∙ joined_again next others t.1

pub class_name_is : (bytes : List ℕ) → spells_class_name bytes ≡ true → IsClassName bytes
class_name_is bytes h =
    let r = rest_is true bytes h in
    record {
      first = r.first;
      others = r.others;
      parts = (let e : list_all is_name_part (r.first ∷ r.others) ≡ true = and_from _ _ (and_from _ _ r.some r.letters) r.parts in let t : IsTrue (list_all is_name_part (r.first ∷ r.others)) = grind (arith, e) in t);
      whole = r.whole;
    }

pub class_name_again : (bytes : List ℕ) → IsClassName bytes → spells_class_name bytes ≡ true
class_name_again bytes h =
    let e : list_all is_name_part (h.first ∷ h.others) ≡ true = grind (arith, h.parts) in
    ap (λ (bs : List ℕ). is_rest_of_name true bs) h.whole ∙ joined_again h.first h.others e
