-- How long the instructions that are written are, and what their pool entries give: by the scan, and as instructions of straight code.
use Rattle.std.proofs.Common.{◌≡◌, ℕ, zero, suc, ◌<◌, ◌≤◌, Bool, true, false, ◌++◌, length, Some, Ok, refl, sym, ◌∙◌, arith, nat_lt, nat_eq}
use Rattle.std.specs.Prelude.{is_some, not}
use Rattle.std.proofs.lemmas.Bool.{le-ltb, not-true}
use Rattle.byteorder.specs.Endian.{big_number}
use Rattle.byteorder.specs.Numbers.{big_number-reads_back}
use Rattle.jc_desc.specs.Names.{is_init_name}
use Rattle.jc_desc.specs.PoolAnswers.{member_ref_in}
use Rattle.jc_facts.specs.declared.act.Act.{Act}
use Rattle.jc_facts.specs.declared.act.Act.TheVariants as acts
use Rattle.jc_facts.specs.file.Attributes.{is_array_name}
use Rattle.jc_facts.specs.Names.{Bytes}
use Rattle.jc_facts.specs.written.PoolEntries.{two}
use Rattle.jc_facts.specs.written.Bodies.{tag_of_act, opcode_of_act}
use Rattle.jc_facts.specs.code.Code.{Around, operand, used}
use Rattle.jc_facts.specs.code.Lengths.{instruction_length, known_length, length_within}
use Rattle.jc_facts.specs.code.Typing.{uses, decode, entry_instruction}
use Rattle.jc_facts.specs.written.TypedSteps.{reference}

-- ---- lengths

long_enough : (all n : ℕ) → n ≤ all → length_within all (Ok n) ≡ Ok n
long_enough all n h = let l : nat_lt all n ≡ false = le-ltb _ _ h in rw l refl

pub fixed : (pc op n : ℕ) (rest : Bytes) → known_length op ≡ n → nat_eq n 0 ≡ false → n ≤ suc (length rest) → instruction_length pc op rest ≡ Ok n
unfolding instruction_length
fixed pc op n rest e z h = rw (e, z) (long_enough (suc (length rest)) n h)

-- ---- operands

pub operand_is : (op i : ℕ) (rest : Bytes) → nat_eq op 18 ≡ false → i < 65536 → operand op (two i ++ rest) ≡ i
operand_is op i rest e h =
    let r : big_number 2 (two i ++ rest) ≡ i = big_number-reads_back 2 i rest h in
    let l : nat_lt (suc (suc (length rest))) 2 ≡ false = le-ltb _ _ (omega arith) in
    rw (e, l) r

-- what holds of the locals that have a short form
pub below_four : (P : ℕ → Type 0) → P 0 → P 1 → P 2 → P 3 → (n : ℕ) → nat_lt n 4 ≡ true → P n
below_four P a b c d zero h = a
below_four P a b c d (suc zero) h = b
below_four P a b c d (suc (suc zero)) h = c
below_four P a b c d (suc (suc (suc zero))) h = d
below_four P a b c d (suc (suc (suc (suc n)))) h = absurd (let q : nat_lt (suc (suc (suc (suc n)))) 4 ≡ false = le-ltb _ _ (omega arith) in let r : false ≡ true = sym q ∙ h in cc)

-- ---- the ten acts on members

abbrev pub is_used : Act → Bool
is_used acts.GetStatic = true
is_used acts.PutStatic = true
is_used acts.GetField = true
is_used acts.PutField = true
is_used acts.InvokeVirtual = true
is_used acts.InvokeSpecial = true
is_used acts.InvokeSpecialInterface = true
is_used acts.InvokeStatic = true
is_used acts.InvokeStaticInterface = true
is_used acts.InvokeInterface = true
is_used _ = false

-- the name is one that the act can call
abbrev pub is_named : Act → Bytes → Bool
is_named acts.GetStatic n = true
is_named acts.PutStatic n = true
is_named acts.GetField n = true
is_named acts.PutField n = true
is_named a n = not (is_init_name n)

pub member_decoded : (a : Around) (what : Act) (near i : ℕ) (c n d : Bytes) → is_used what ≡ true → member_ref_in a.pool i ≡ Some (reference (tag_of_act what) c n d) → is_array_name c ≡ false → is_named what n ≡ true
    → decode a (opcode_of_act what) near i ≡ Some (uses what (reference (tag_of_act what) c n d))
unfolding decode entry_instruction
member_decoded a acts.GetStatic near i c n d u h b e = rw (h, b) refl
member_decoded a acts.PutStatic near i c n d u h b e = rw (h, b) refl
member_decoded a acts.GetField near i c n d u h b e = rw (h, b) refl
member_decoded a acts.PutField near i c n d u h b e = rw (h, b) refl
member_decoded a acts.InvokeVirtual near i c n d u h b e = rw (h, b) refl
member_decoded a acts.InvokeSpecial near i c n d u h b e = let f = not-true (is_init_name n) e in rw (h, b, f) refl
member_decoded a acts.InvokeSpecialInterface near i c n d u h b e = let f = not-true (is_init_name n) e in rw (h, b, f) refl
member_decoded a acts.InvokeStatic near i c n d u h b e = rw (h, b) refl
member_decoded a acts.InvokeStaticInterface near i c n d u h b e = rw (h, b) refl
member_decoded a acts.InvokeInterface near i c n d u h b e = rw (h, b) refl
member_decoded a _ near i c n d u h b e = absurd cc

-- the scan refuses none of them
pub member_used : (a : Around) (what : Act) (i : ℕ) (c n d : Bytes) → is_used what ≡ true → member_ref_in a.pool i ≡ Some (reference (tag_of_act what) c n d) → is_named what n ≡ true → is_some (used a (opcode_of_act what) i) ≡ true
unfolding used
member_used a acts.GetStatic i c n d u h e = rw h refl
member_used a acts.PutStatic i c n d u h e = rw h refl
member_used a acts.GetField i c n d u h e = rw h refl
member_used a acts.PutField i c n d u h e = rw h refl
member_used a acts.InvokeVirtual i c n d u h e = let f = not-true (is_init_name n) e in rw (h, f) refl
member_used a acts.InvokeSpecial i c n d u h e = rw h refl
member_used a acts.InvokeSpecialInterface i c n d u h e = rw h refl
member_used a acts.InvokeStatic i c n d u h e = let f = not-true (is_init_name n) e in rw (h, f) refl
member_used a acts.InvokeStaticInterface i c n d u h e = rw h refl
member_used a acts.InvokeInterface i c n d u h e = rw h refl
member_used a _ i c n d u h e = absurd cc
