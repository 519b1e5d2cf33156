-- Each step of which the pool answers what it was asked for is read.
use Rattle.std.proofs.Common.{◌≡◌, ℕ, suc, ◌+◌, ◌*◌, ◌<◌, ◌≤◌, ◌%◌, Bool, true, false, cond, [], ◌∷◌, ◌++◌, List, length, get_or, Some, refl, ap, ◌∙◌, arith, nat_lt, nat_eq}
use Rattle.std.specs.Prelude.{is_some}
use Rattle.byteorder.specs.Endian.{big_bytes}
use Rattle.jc_desc.specs.PoolAnswers.{class_in, member_ref_in}
use Rattle.jc_facts.specs.declared.act.Act.{Act}
use Rattle.jc_facts.specs.declared.act.Act.TheVariants as acts
use Rattle.jc_facts.specs.declared.blueprint.Primitive.{Primitive}
use Rattle.jc_facts.specs.declared.blueprint.Primitive.TheVariants as prims
use Rattle.jc_facts.specs.declared.blueprint.Slot.{Slot}
use Rattle.jc_facts.specs.declared.blueprint.Slot.TheVariants as kinds
use Rattle.jc_facts.specs.declared.blueprint.Step.{Step}
use Rattle.jc_facts.specs.declared.blueprint.Step.TheVariants as steps
use Rattle.jc_facts.specs.declared.key.Key.{Key}
use Rattle.jc_facts.specs.file.Attributes.{is_array_name}
use Rattle.jc_facts.specs.Names.{Bytes}
use Rattle.jc_facts.specs.written.PoolEntries.{two, PoolEntry, class, member, index_of}
use Rattle.jc_facts.specs.written.Bodies.{tag_of_act, opcode_of_act, number_of_kind, init_name, behind_use}
use Rattle.jc_facts.specs.code.Code.{Around, used}
use Rattle.jc_facts.specs.code.Lengths.{is_one_byte_long, is_two_bytes_long, is_three_bytes_long, is_five_bytes_long, known_length}
use Rattle.jc_facts.specs.code.Typing.{loads, decode, plain_instruction, entry_instruction, is_return}
use Rattle.jc_facts.specs.written.TypedSteps.{reference, instruction_of}
use Rattle.jc_write.proofs.Decoded.{fixed, operand_is, below_four, member_decoded, is_used, is_named, member_used}
use Rattle.jc_write.proofs.CodeTyped.{IsStepRead, HasRead}

-- ---- instructions of one byte

plain_read : (a : Around) (pc op : ℕ) (s : Step) → is_return op ≡ false → known_length op ≡ 1 → ((i : ℕ) → is_some (used a op i) ≡ true) → ((near i : ℕ) → decode a op near i ≡ instruction_of s) → IsStepRead a pc s (op ∷ [])
plain_read a pc op s r e u d = record { op = op; tail = []; whole = refl; no_return = r; len = λ rest. fixed pc op 1 rest e refl (omega arith); used_is = λ rest. u _; decoded = λ rest. d _ _ }

pub null_read : (a : Around) (pool : List PoolEntry) → HasRead a pool steps.Null
unfolding known_length is_one_byte_long used decode plain_instruction
null_read a pool pc = plain_read a pc 1 steps.Null refl refl (λ i. refl) (λ near i. refl)

pub zero_read : (a : Around) (pool : List PoolEntry) (p : Primitive) → HasRead a pool (steps.Zero p)
unfolding known_length is_one_byte_long used decode plain_instruction
zero_read a pool prims.Int pc = plain_read a pc 3 (steps.Zero prims.Int) refl refl (λ i. refl) (λ near i. refl)
zero_read a pool prims.Long pc = plain_read a pc 9 (steps.Zero prims.Long) refl refl (λ i. refl) (λ near i. refl)
zero_read a pool prims.Float pc = plain_read a pc 11 (steps.Zero prims.Float) refl refl (λ i. refl) (λ near i. refl)
zero_read a pool prims.Double pc = plain_read a pc 14 (steps.Zero prims.Double) refl refl (λ i. refl) (λ near i. refl)

pub dup_read : (a : Around) (pool : List PoolEntry) → HasRead a pool steps.Dup
unfolding known_length is_one_byte_long used decode plain_instruction
dup_read a pool pc = plain_read a pc 89 steps.Dup refl refl (λ i. refl) (λ near i. refl)

pub pop_read : (a : Around) (pool : List PoolEntry) → HasRead a pool steps.Pop
unfolding known_length is_one_byte_long used decode plain_instruction
pop_read a pool pc = plain_read a pc 87 steps.Pop refl refl (λ i. refl) (λ near i. refl)

pub pop_two_read : (a : Around) (pool : List PoolEntry) → HasRead a pool steps.Pop2
unfolding known_length is_one_byte_long used decode plain_instruction
pop_two_read a pool pc = plain_read a pc 88 steps.Pop2 refl refl (λ i. refl) (λ near i. refl)

-- ---- loads

-- the short form of this load is one byte, and is read as it
abbrev IsShortForm : Around → Slot → ℕ → Type 0
IsShortForm a s n =
    (is_return (26 + 4 * number_of_kind s + n) ≡ false) × (known_length (26 + 4 * number_of_kind s + n) ≡ 1) × ((i : ℕ) → is_some (used a (26 + 4 * number_of_kind s + n) i) ≡ true)
    × ((near i : ℕ) → decode a (26 + 4 * number_of_kind s + n) near i ≡ Some (loads (number_of_kind s) n))

short_form : (a : Around) (s : Slot) (n : ℕ) → nat_lt n 4 ≡ true → IsShortForm a s n
unfolding known_length is_one_byte_long used decode plain_instruction
short_form a kinds.Int n h = below_four (IsShortForm a kinds.Int) (refl, refl, λ i. refl, λ x i. refl) (refl, refl, λ i. refl, λ x i. refl) (refl, refl, λ i. refl, λ x i. refl) (refl, refl, λ i. refl, λ x i. refl) n h
short_form a kinds.Long n h = below_four (IsShortForm a kinds.Long) (refl, refl, λ i. refl, λ x i. refl) (refl, refl, λ i. refl, λ x i. refl) (refl, refl, λ i. refl, λ x i. refl) (refl, refl, λ i. refl, λ x i. refl) n h
short_form a kinds.Float n h = below_four (IsShortForm a kinds.Float) (refl, refl, λ i. refl, λ x i. refl) (refl, refl, λ i. refl, λ x i. refl) (refl, refl, λ i. refl, λ x i. refl) (refl, refl, λ i. refl, λ x i. refl) n h
short_form a kinds.Double n h = below_four (IsShortForm a kinds.Double) (refl, refl, λ i. refl, λ x i. refl) (refl, refl, λ i. refl, λ x i. refl) (refl, refl, λ i. refl, λ x i. refl) (refl, refl, λ i. refl, λ x i. refl) n h
short_form a kinds.Ref n h = below_four (IsShortForm a kinds.Ref) (refl, refl, λ i. refl, λ x i. refl) (refl, refl, λ i. refl, λ x i. refl) (refl, refl, λ i. refl, λ x i. refl) (refl, refl, λ i. refl, λ x i. refl) n h

short_read : (a : Around) (pc : ℕ) (s : Slot) (n : ℕ) → nat_lt n 4 ≡ true → IsStepRead a pc (steps.Load s n) ((26 + 4 * number_of_kind s + n) ∷ [])
short_read a pc s n h = let f = short_form a s n h in plain_read a pc (26 + 4 * number_of_kind s + n) (steps.Load s n) f.0 f.1 f.2 f.3

-- the long form
long_form : (a : Around) (s : Slot)
    → (is_return (21 + number_of_kind s) ≡ false) × (known_length (21 + number_of_kind s) ≡ 2) × ((i : ℕ) → is_some (used a (21 + number_of_kind s) i) ≡ true) × ((near i : ℕ) → decode a (21 + number_of_kind s) near i ≡ Some (loads (number_of_kind s) near))
unfolding known_length is_one_byte_long is_two_bytes_long used decode plain_instruction
long_form a kinds.Int = (refl, refl, λ i. refl, λ x i. refl)
long_form a kinds.Long = (refl, refl, λ i. refl, λ x i. refl)
long_form a kinds.Float = (refl, refl, λ i. refl, λ x i. refl)
long_form a kinds.Double = (refl, refl, λ i. refl, λ x i. refl)
long_form a kinds.Ref = (refl, refl, λ i. refl, λ x i. refl)

long_read : (a : Around) (pc : ℕ) (s : Slot) (n : ℕ) → n < 256 → IsStepRead a pc (steps.Load s n) ((21 + number_of_kind s) ∷ big_bytes 1 n)
long_read a pc s n h =
    let f = long_form a s in
    let low : n % 256 ≡ n = omega (arith, h) in
    record {
      op = 21 + number_of_kind s;
      tail = big_bytes 1 n;
      whole = refl;
      no_return = f.0;
      len = λ rest. fixed pc (21 + number_of_kind s) 2 (big_bytes 1 n ++ rest) f.1 refl (let q : 2 ≤ suc (suc (length rest)) = omega arith in q);
      used_is = λ rest. f.2 _;
      decoded = λ rest. f.3 (n % 256) _ ∙ ap (λ (m : ℕ). Some (loads (number_of_kind s) m)) low;
    }

pub load_read : (a : Around) (pool : List PoolEntry) (s : Slot) (n : ℕ) → n < 256 → HasRead a pool (steps.Load s n)
load_read a pool s n h pc = go (nat_lt n 4) refl where
  go : (b : Bool) → nat_lt n 4 ≡ b → IsStepRead a pc (steps.Load s n) (cond b ((26 + 4 * number_of_kind s + n) ∷ []) ((21 + number_of_kind s) ∷ big_bytes 1 n))
  go true e = short_read a pc s n e
  go false e = long_read a pc s n h

-- ---- those with an entry, whose index is behind the opcode

entry_read : (a : Around) (pc op i : ℕ) (s : Step) → is_return op ≡ false → known_length op ≡ 3 → nat_eq op 18 ≡ false → i < 65536 → is_some (used a op i) ≡ true → ((near : ℕ) → decode a op near i ≡ instruction_of s) → IsStepRead a pc s (op ∷ two i)
entry_read a pc op i s r e o l u d = record {
  op = op;
  tail = two i;
  whole = refl;
  no_return = r;
  len = λ rest. fixed pc op 3 (two i ++ rest) e refl (let q : 3 ≤ suc (suc (suc (length rest))) = omega arith in q);
  used_is = λ rest. ap (λ (n : ℕ). is_some (used a op n)) (operand_is op i rest o l) ∙ u;
  decoded = λ rest. ap (λ (n : ℕ). decode a op (get_or (two i ++ rest) 0 0) n) (operand_is op i rest o l) ∙ d _;
}

pub new_read : (a : Around) (pool : List PoolEntry) (c : Bytes) → class_in a.pool (index_of pool (class c)) ≡ Some c → index_of pool (class c) < 65536 → HasRead a pool (steps.New c)
unfolding known_length is_one_byte_long is_two_bytes_long is_three_bytes_long used decode entry_instruction
new_read a pool c h l pc = entry_read a pc 187 (index_of pool (class c)) (steps.New c) refl refl refl l (rw h refl) (λ near. rw h refl)

pub cast_read : (a : Around) (pool : List PoolEntry) (c : Bytes) → class_in a.pool (index_of pool (class c)) ≡ Some c → index_of pool (class c) < 65536 → HasRead a pool (steps.Cast c)
unfolding known_length is_one_byte_long is_two_bytes_long is_three_bytes_long used decode entry_instruction
cast_read a pool c h l pc = entry_read a pc 192 (index_of pool (class c)) (steps.Cast c) refl refl refl l (rw h refl) (λ near. rw h refl)

pub construct_read : (a : Around) (pool : List PoolEntry) (c d : Bytes) → member_ref_in a.pool (index_of pool (member 10 c init_name d)) ≡ Some (reference 10 c init_name d) → is_array_name c ≡ false → index_of pool (member 10 c init_name d) < 65536
    → HasRead a pool (steps.Construct c d)
unfolding known_length is_one_byte_long is_two_bytes_long is_three_bytes_long used decode entry_instruction
construct_read a pool c d h b l pc = entry_read a pc 183 (index_of pool (member 10 c init_name d)) (steps.Construct c d) refl refl refl l (rw h refl) (λ near. rw (h, b) refl)

-- the pool has what a step of this act names, which is no array's and can be called
pub record IsAnswered (a : Around) (pool : List PoolEntry) (what : Act) (c : Bytes) (k : Key) : Type 0 where
  pub ref_is : member_ref_in a.pool (index_of pool (member (tag_of_act what) c k.name k.descriptor)) ≡ Some (reference (tag_of_act what) c k.name k.descriptor)
  pub small : index_of pool (member (tag_of_act what) c k.name k.descriptor) < 65536
  pub no_array : is_array_name c ≡ false
  pub callable : is_named what k.name ≡ true

-- the index of its entry
abbrev index_at : List PoolEntry → Act → Bytes → Key → ℕ
index_at pool what c k = index_of pool (member (tag_of_act what) c k.name k.descriptor)

-- an act whose instruction takes three bytes
use_read : (a : Around) (pool : List PoolEntry) (pc : ℕ) (what : Act) (c : Bytes) (k : Key) → is_used what ≡ true → IsAnswered a pool what c k → is_return (opcode_of_act what) ≡ false → known_length (opcode_of_act what) ≡ 3 → nat_eq (opcode_of_act what) 18 ≡ false
    → IsStepRead a pc (steps.Member what c k) (opcode_of_act what ∷ two (index_at pool what c k))
use_read a pool pc what c k u h r e o =
    entry_read a pc (opcode_of_act what) (index_at pool what c k) (steps.Member what c k) r e o h.small (member_used a what (index_at pool what c k) c k.name k.descriptor u h.ref_is h.callable)
    (λ near. member_decoded a what near (index_at pool what c k) c k.name k.descriptor u h.ref_is h.no_array h.callable ∙ rw h.no_array refl)

-- an invokeinterface, which takes five
interface_read : (a : Around) (pool : List PoolEntry) (pc : ℕ) (c : Bytes) (k : Key) → IsAnswered a pool acts.InvokeInterface c k → IsStepRead a pc (steps.Member acts.InvokeInterface c k) (185 ∷ (two (index_at pool acts.InvokeInterface c k) ++ behind_use acts.InvokeInterface k.descriptor))
unfolding known_length is_one_byte_long is_two_bytes_long is_three_bytes_long is_five_bytes_long
interface_read a pool pc c k h =
    let i : ℕ = index_at pool acts.InvokeInterface c k in
    let more : Bytes = behind_use acts.InvokeInterface k.descriptor in
    record {
      op = 185;
      tail = two i ++ more;
      whole = refl;
      no_return = refl;
      len = λ rest. fixed pc 185 5 ((two i ++ more) ++ rest) refl refl (let q : 5 ≤ suc (suc (suc (suc (suc (length rest))))) = omega arith in q);
      used_is = λ rest. ap (λ (n : ℕ). is_some (used a 185 n)) (operand_is 185 i (more ++ rest) refl h.small) ∙ member_used a acts.InvokeInterface i c k.name k.descriptor refl h.ref_is h.callable;
      decoded = λ rest. ap (λ (n : ℕ). decode a 185 (get_or ((two i ++ more) ++ rest) 0 0) n) (operand_is 185 i (more ++ rest) refl h.small) ∙ member_decoded a acts.InvokeInterface _ i c k.name k.descriptor refl h.ref_is h.no_array h.callable ∙ rw h.no_array refl;
    }

pub member_read : (a : Around) (pool : List PoolEntry) (what : Act) (c : Bytes) (k : Key) → is_used what ≡ true → IsAnswered a pool what c k → HasRead a pool (steps.Member what c k)
unfolding known_length is_one_byte_long is_two_bytes_long is_three_bytes_long
member_read a pool acts.GetStatic c k u h pc = use_read a pool pc acts.GetStatic c k u h refl refl refl
member_read a pool acts.PutStatic c k u h pc = use_read a pool pc acts.PutStatic c k u h refl refl refl
member_read a pool acts.GetField c k u h pc = use_read a pool pc acts.GetField c k u h refl refl refl
member_read a pool acts.PutField c k u h pc = use_read a pool pc acts.PutField c k u h refl refl refl
member_read a pool acts.InvokeVirtual c k u h pc = use_read a pool pc acts.InvokeVirtual c k u h refl refl refl
member_read a pool acts.InvokeSpecial c k u h pc = use_read a pool pc acts.InvokeSpecial c k u h refl refl refl
member_read a pool acts.InvokeSpecialInterface c k u h pc = use_read a pool pc acts.InvokeSpecialInterface c k u h refl refl refl
member_read a pool acts.InvokeStatic c k u h pc = use_read a pool pc acts.InvokeStatic c k u h refl refl refl
member_read a pool acts.InvokeStaticInterface c k u h pc = use_read a pool pc acts.InvokeStaticInterface c k u h refl refl refl
member_read a pool acts.InvokeInterface c k u h pc = interface_read a pool pc c k h
member_read a pool _ c k u h pc = absurd cc
