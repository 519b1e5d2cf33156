-- Paths of witness files: those of two numbers differ, and those of two names.
use Rattle.std.proofs.Common.{◌≡◌, false, ℕ, zero, suc, ◌+◌, ◌-◌, ◌^◌, ◌<◌, [], ◌++◌, length, take, drop, replicate, refl, sym, ap, ◌∙◌, append_assoc, codes, arith}
use Rattle.std.specs.Fmt.{decimal, styled_decimal, format_spec, padded_integral, char_count}
use Rattle.std.specs.Str.Parse.{digits_value_after, digits_value}
use Rattle.std.specs.Prelude.{Result, IfOk}
use Rattle.std.proofs.Math.Seq.{take-append_seam}
use Rattle.std.proofs.lemmas.Fmt.{decimal_is_IsNumeral, length-decimal-le}
use Rattle.std.proofs.lemmas.List.{append-nil, append_cancel_left, append_cancel_right, drop-replicate, length-append, length-replicate}
use Rattle.std.proofs.lemmas.Result.{IfOk-weaker}
use Rattle.jc_facts.specs.Names.{Bytes}
use Rattle.jc_shown.specs.Witness.{six_digits, witness_path}

-- ---- numbers

zeros : (k : ℕ) → drop k (codes "000000") ≡ replicate (6 - k) 48
zeros k = let all : codes "000000" ≡ replicate 6 48 = refl in ap (λ (t : Bytes). drop k t) all ∙ drop-replicate k 6 48

-- what `{:06}` writes
zero_padded : (n : ℕ) → padded_integral (format_spec 32 0 4 6 (2 ^ 64 - 1)) false [] (decimal n) ≡ six_digits n
unfolding padded_integral char_count
zero_padded n =
    let short : 6 - length (decimal n) - 0 - 0 ≡ 6 - length (decimal n) = omega arith in
    rw short (ap (λ (t : Bytes). replicate (6 - length (decimal n)) 48 ++ t) (append-nil (decimal n)) ∙ ap (λ (t : Bytes). t ++ decimal n) (sym (zeros (length (decimal n)))))

pub six_written : {S E : Type 0} (bytes : S → Bytes) (r : Result S E) (text : Bytes) (n : ℕ) → text ≡ styled_decimal (format_spec 32 0 4 6 (2 ^ 64 - 1)) n → IfOk r (λ s. bytes s ≡ text)
    → IfOk r (λ s. bytes s ≡ six_digits n)
six_written bytes r text n is = IfOk-weaker r (λ s. bytes s ≡ text) (λ s. bytes s ≡ six_digits n) (λ s h. h ∙ is ∙ zero_padded n)

six_long : (n : ℕ) → n < 10 ^ 6 → length (six_digits n) ≡ 6
six_long n small =
    length-append (drop (length (decimal n)) (codes "000000")) (decimal n)
    ∙ ap (λ (t : Bytes). length t + length (decimal n)) (zeros (length (decimal n)))
    ∙ ap (λ m. m + length (decimal n)) (length-replicate (6 - length (decimal n)) 48)
    ∙ (let most = length-decimal-le 6 n (omega arith) small (omega arith) in omega arith)

zeros_value : (k : ℕ) (ds : Bytes) → digits_value_after 10 0 (replicate k 48 ++ ds) ≡ digits_value_after 10 0 ds
zeros_value zero ds = refl
zeros_value (suc k) ds = zeros_value k ds

six_value : (n : ℕ) → n < 10 ^ 6 → digits_value 10 (six_digits n) ≡ n
six_value n small =
    ap (λ (t : Bytes). digits_value 10 (t ++ decimal n)) (zeros (length (decimal n)))
    ∙ zeros_value (6 - length (decimal n)) (decimal n)
    ∙ (decimal_is_IsNumeral n (omega arith)).1

-- ---- paths

-- a path is its folder, its number, and what follows
split_path : (a b c d e f : Bytes) → a ++ b ++ c ++ d ++ e ++ f ≡ (a ++ b) ++ (c ++ (d ++ e ++ f))
split_path a b c d e f =
    append_assoc (a ++ b ++ c ++ d) e f ∙ append_assoc (a ++ b ++ c) d (e ++ f) ∙ append_assoc (a ++ b) c (d ++ (e ++ f))
    ∙ ap (λ (t : Bytes). (a ++ b) ++ (c ++ t)) (sym (append_assoc d e f))

pub one_number : (dir : Bytes) (n m : ℕ) (x y : Bytes) → n < 10 ^ 6 → m < 10 ^ 6 → witness_path dir n x ≡ witness_path dir m y → n ≡ m
one_number dir n m x y p q is = sym (six_value n p) ∙ ap (digits_value 10) digits ∙ six_value m q
  where
    behind : Bytes → Bytes
    behind name = codes "/" ++ name ++ codes ".class"

    tails : six_digits n ++ behind x ≡ six_digits m ++ behind y
    tails = append_cancel_left (dir ++ codes "/") (six_digits n ++ behind x) (six_digits m ++ behind y)
        (sym (split_path dir (codes "/") (six_digits n) (codes "/") x (codes ".class")) ∙ is ∙ split_path dir (codes "/") (six_digits m) (codes "/") y (codes ".class"))

    digits : six_digits n ≡ six_digits m
    digits =
        let a : take 6 (six_digits n ++ behind x) ≡ six_digits n = ap (λ k. take k (six_digits n ++ behind x)) (sym (six_long n p)) ∙ take-append_seam (six_digits n) (behind x) in
        let b : take 6 (six_digits m ++ behind y) ≡ six_digits m = ap (λ k. take k (six_digits m ++ behind y)) (sym (six_long m q)) ∙ take-append_seam (six_digits m) (behind y) in
        sym a ∙ ap (take 6) tails ∙ b

pub one_name : (dir : Bytes) (n : ℕ) (x y : Bytes) → witness_path dir n x ≡ witness_path dir n y → x ≡ y
one_name dir n x y is =
    let front : Bytes = dir ++ codes "/" ++ six_digits n ++ codes "/" in
    append_cancel_left front x y (append_cancel_right (front ++ x) (front ++ y) (codes ".class") is)
