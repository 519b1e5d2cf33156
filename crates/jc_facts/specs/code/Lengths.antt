-- How long instructions are (JVMS 6.5, chapter 7).
--     instruction_length pc op rest      the length of the instruction at this place of the code, whose opcode is followed by these bytes
use Rattle.std.specs.Prelude.{ℕ, suc, ◌+◌, ◌-◌, ◌*◌, ◌%◌, length, drop, get_or, Result, Ok, Err, Bool, ◌==◌, ◌&&◌, ◌||◌, nat_le, nat_lt, if◌then◌else◌}
use Rattle.jc_desc.specs.PoolAnswers.{word_from}
use Rattle.jc_facts.specs.declared.code_fault.CodeReason.{CodeReason}
use Rattle.jc_facts.specs.declared.code_fault.CodeReason.TheVariants as reasons
use Rattle.jc_facts.specs.Names.{Bytes}

-- from low to high, both included
abbrev pub is_between : ℕ → ℕ → ℕ → Bool
is_between low high n = nat_le low n && nat_le n high

-- the opcode alone: constants from nop to dconst_1, short loads and array loads, short stores and array stores, pop to swap, arithmetic,
-- conversions and comparisons, returns, arraylength, athrow, monitorenter, monitorexit
unfoldable pub is_one_byte_long : ℕ → Bool
is_one_byte_long op = is_between 0 15 op || is_between 26 53 op || is_between 59 131 op || is_between 133 152 op || is_between 172 177 op || op == 190 || op == 191 || op == 194 || op == 195

-- one byte more: bipush, ldc, a load or store of a local, ret, newarray
unfoldable pub is_two_bytes_long : ℕ → Bool
is_two_bytes_long op = op == 16 || op == 18 || is_between 21 25 op || is_between 54 58 op || op == 169 || op == 188

-- two bytes more: sipush, ldc_w, ldc2_w, iinc, jumps, acts on fields, invokes but two, new, anewarray, checkcast, instanceof, ifnull, ifnonnull
unfoldable pub is_three_bytes_long : ℕ → Bool
is_three_bytes_long op = op == 17 || op == 19 || op == 20 || op == 132 || is_between 153 168 op || is_between 178 184 op || op == 187 || op == 189 || op == 192 || op == 193 || op == 198 || op == 199

-- four bytes more: invokeinterface, invokedynamic, goto_w, jsr_w
unfoldable pub is_five_bytes_long : ℕ → Bool
is_five_bytes_long op = op == 185 || op == 186 || op == 200 || op == 201

-- the length of an instruction that is always equally long, multianewarray with three bytes more; 0 for wide, tableswitch, lookupswitch and
-- where no instruction has the opcode
unfoldable pub known_length : ℕ → ℕ
known_length op = if is_one_byte_long op then 1 else if is_two_bytes_long op then 2 else if is_three_bytes_long op then 3 else if op == 197 then 4 else if is_five_bytes_long op then 5 else 0

-- wide with the opcode behind it: a load, a store or ret with two more bytes of a local, iinc with four (JVMS 6.5.wide)
abbrev pub wide_length : ℕ → Result ℕ CodeReason
wide_length op = if is_between 21 25 op || is_between 54 58 op || op == 169 then Ok 4 else if op == 132 then Ok 6 else Err reasons.BadOpcode

-- what the bits of a signed number of four bytes stand for, plus 2 to the 31st: so the lower of two is the lower number
abbrev pub shifted_up : ℕ → ℕ
shifted_up n = if nat_lt n 2147483648 then n + 2147483648 else n - 2147483648

-- how many bytes stand behind the opcode of a switch at this place, so that its operands begin at a multiple of four from the code's start
abbrev pub padding_length : ℕ → ℕ
padding_length pc = 3 - pc % 4

-- a tableswitch: opcode, padding, default, low, high, and four bytes for each from low to high; low is at most high (JVMS 6.5.tableswitch)
abbrev pub table_length : ℕ → ℕ → ℕ → Result ℕ CodeReason
table_length pad low high = if nat_lt (shifted_up high) (shifted_up low) then Err reasons.BadOpcode else Ok (13 + pad + 4 * (shifted_up high - shifted_up low + 1))

-- a lookupswitch: opcode, padding, default, npairs, and eight bytes for each pair; npairs isn't negative (JVMS 6.5.lookupswitch)
abbrev pub lookup_length : ℕ → ℕ → Result ℕ CodeReason
lookup_length pad pairs = if nat_lt pairs 2147483648 then Ok (9 + pad + 8 * pairs) else Err reasons.BadOpcode

-- the number of four bytes from byte i on
abbrev pub word_at_byte : ℕ → Bytes → ℕ
word_at_byte i bytes = word_from (drop i bytes)

-- the length of the others. What tells it comes first: CutShort where it isn't there, before BadOpcode
unfoldable pub varying_length : ℕ → ℕ → Bytes → Result ℕ CodeReason
varying_length op pc rest =
    if op == 196 then (if nat_lt (length rest) 1 then Err reasons.CutShort else wide_length (get_or rest 0 0))
    else if op == 170 then (if nat_lt (length rest) (padding_length pc + 12) then Err reasons.CutShort else table_length (padding_length pc) (word_at_byte (padding_length pc + 4) rest) (word_at_byte (padding_length pc + 8) rest))
    else if op == 171 then (if nat_lt (length rest) (padding_length pc + 8) then Err reasons.CutShort else lookup_length (padding_length pc) (word_at_byte (padding_length pc + 4) rest))
    else Err reasons.BadOpcode

-- the length that the opcode and what tells it give, whether so many bytes are there or not
abbrev pub told_length : ℕ → ℕ → Bytes → Result ℕ CodeReason
told_length op pc rest = if known_length op == 0 then varying_length op pc rest else Ok (known_length op)

-- that length where so many bytes are left, else CutShort
abbrev pub length_within : ℕ → Result ℕ CodeReason → Result ℕ CodeReason
length_within all (Err reason) = Err reason
length_within all (Ok n) = if nat_lt all n then Err reasons.CutShort else Ok n

-- the length of the instruction at this place, whose opcode and following bytes are these
unfoldable pub instruction_length : ℕ → ℕ → Bytes → Result ℕ CodeReason
instruction_length pc op rest = length_within (suc (length rest)) (told_length op pc rest)
