-- Bytes each of which is a character make a text.
use Rattle.std.proofs.Common.{◌≡◌, ℕ, Bool, true, false, not, ◌&&◌, nat_eq, nat_lt, List, [], ◌∷◌, refl}
use Rattle.std.specs.List.{list_all}
use Rattle.std.proofs.lemmas.Bool.{and_parts}
use Rattle.jc_desc.specs.Utf8.{is_modified_utf8, is_rest_of_text}
use Rattle.jc_pool.specs.steps.Texts.{is_single_byte}

-- the first byte is one, and the rest is a text
one : (zero low : Bool) (b : ℕ) (bs : List ℕ) → nat_eq b 0 ≡ zero → nat_lt b 128 ≡ low → (not zero && low) ≡ true → is_rest_of_text 0 bs ≡ true → is_rest_of_text 0 (b ∷ bs) ≡ true
one false true b bs z l h e = rw (z, l) e
one true low b bs z l h e = absurd (let q : false ≡ true = h in cc)
one false false b bs z l h e = absurd (let q : false ≡ true = h in cc)

pub single_text : (bytes : List ℕ) → list_all is_single_byte bytes ≡ true → is_modified_utf8 bytes ≡ true
single_text [] h = refl
single_text (b ∷ bs) h =
    let parts = and_parts (is_single_byte b) (list_all is_single_byte bs) h in
    one (nat_eq b 0) (nat_lt b 128) b bs refl refl parts.0 (single_text bs parts.1)
