-- The number that a text says.
--     same_number, no_number      what parsing finds is the only number that is written so
--     number_found, number_missing      it is the one of the definition
--     number_bounds      which is from 1 to 4,096
use Rattle.std.proofs.Common.{◌≡◌, ◌∙◌, ◌≤◌, ℕ, Bool, true, false, Some, None, arith, rules, refl, sym, Result, Ok, Err}
use Rattle.std.specs.Str.Parse.{ParsesUnsigned, digits_value}
use Rattle.std.specs.Str.{bytes_eq}
use Rattle.std.specs.Fmt.{decimal}
use Rattle.std.specs.Prelude.{◌&&◌, nat_le, if◌then◌else◌}
use Rattle.std.proofs.lemmas.Fmt.{parse-decimal, decimal_is_IsNumeral}
use Rattle.clap.specs.Walk.{Text}
use Rattle.jc_words.specs.Number.{if_written, number_of}
use Rattle.jc_words.specs.steps.Written.{IsWritten}

-- ---- parsing

read_as : {E : Type 0} (text : Text) (m : ℕ) (r : Result ℕ E) → IsWritten text m → ParsesUnsigned 32 10 text r → r ≡ Ok m
read_as text m r h p =
    let most = h.most in
    parse-decimal 32 m text r (omega arith) (omega arith) h.written p

same_ok : {E : Type 0} (m n : ℕ) (r : Result ℕ E) → r ≡ Ok m → r ≡ Ok n → m ≡ n
same_ok {E} m n r a b = let both : ◌≡◌ {A = Result ℕ E} (Ok m) (Ok n) = sym a ∙ b in cc

no_ok : {E : Type 0} (m : ℕ) (e : E) (r : Result ℕ E) → r ≡ Ok m → r ≡ Err e → ⊥
no_ok {E} m e r a b = let both : ◌≡◌ {A = Result ℕ E} (Ok m) (Err e) = sym a ∙ b in absurd (cc)

pub same_number : {E : Type 0} (text : Text) (m n : ℕ) (r : Result ℕ E) → IsWritten text m → ParsesUnsigned 32 10 text r → r ≡ Ok n → m ≡ n
same_number text m n r h p e = same_ok m n r (read_as text m r h p) e

pub no_number : {E : Type 0} (text : Text) (m : ℕ) (e : E) (r : Result ℕ E) → IsWritten text m → ParsesUnsigned 32 10 text r → r ≡ Err e → ⊥
no_number text m e r h p at = no_ok m e r (read_as text m r h p) at

-- ---- the definition

value_at : (text : Text) (n : ℕ) → IsWritten text n → digits_value 10 text ≡ n
value_at text n h =
    let most = h.most in
    rw (h.written) (decimal_is_IsNumeral n (omega arith)).1

found_at : (text : Text) (n : ℕ) → text ≡ decimal n → 1 ≤ n → n ≤ 4096 → if_written text n ≡ Some n
found_at text n written least most = search (rules, written, least, most)

pub number_found : (text : Text) (n : ℕ) → IsWritten text n → Some n ≡ number_of text
number_found text n h = sym (rw (value_at text n h) (found_at text n h.written h.least h.most))

missing_at : (text : Text) (n : ℕ) (a b c : Bool) → bytes_eq text (decimal n) ≡ a → nat_le 1 n ≡ b → nat_le n 4096 ≡ c → (IsWritten text n → ⊥)
    → None ≡ (if a && (b && c) then Some n else None)
missing_at text n false b c x y z unlike = refl
missing_at text n true false c x y z unlike = refl
missing_at text n true true false x y z unlike = refl
missing_at text n true true true x y z unlike = absurd (unlike (record {
  least = search (rules, y);
  most = search (rules, z);
  written = search (rules, x);
}))

pub number_missing : (text : Text) → ((n : ℕ) → IsWritten text n → ⊥) → None ≡ number_of text
number_missing text unlike =
    let n = digits_value 10 text in
    missing_at text n (bytes_eq text (decimal n)) (nat_le 1 n) (nat_le n 4096) refl refl refl (unlike n)

-- ---- bounds

bounds_at : (text : Text) (m n : ℕ) (a b c : Bool) → nat_le 1 m ≡ b → nat_le m 4096 ≡ c → (if a && (b && c) then Some m else None) ≡ Some n → (1 ≤ n) × (n ≤ 4096)
bounds_at text m n true true true y z e = let is : m ≡ n = cc in rw (← is) (search (rules, y), search (rules, z))
bounds_at text m n true true false y z e = absurd (cc)
bounds_at text m n true false c y z e = absurd (cc)
bounds_at text m n false b c y z e = absurd (cc)

pub number_bounds : (text : Text) (n : ℕ) → number_of text ≡ Some n → (1 ≤ n) × (n ≤ 4096)
number_bounds text n e =
    let m = digits_value 10 text in
    bounds_at text m n (bytes_eq text (decimal m)) (nat_le 1 m) (nat_le m 4096) refl refl e
