-- The scan of the code of a body meets no refusal.
use Rattle.std.proofs.Common.{◌≡◌, ℕ, zero, suc, ◌+◌, ◌≤◌, true, List, [], ◌∷◌, ◌++◌, length, Option, Some, None, Ok, refl, sym, ap, subst, arith}
use Rattle.std.specs.Prelude.{is_some}
use Rattle.std.proofs.lemmas.List.{length-append}
use Rattle.jc_facts.specs.declared.client.Item.{Item}
use Rattle.jc_facts.specs.declared.blueprint.Slot.{Slot}
use Rattle.jc_facts.specs.declared.blueprint.Slot.TheVariants as kinds
use Rattle.jc_facts.specs.declared.blueprint.Step.{Step}
use Rattle.jc_facts.specs.declared.blueprint.Step.TheVariants as steps
use Rattle.jc_facts.specs.Names.{Bytes}
use Rattle.jc_facts.specs.written.PoolEntries.{PoolEntry}
use Rattle.jc_facts.specs.written.Bodies.{step_bytes, steps_bytes, opcode_of_return}
use Rattle.jc_facts.specs.code.Code.{Around, operand, used, instruction_at, next_at, scan_at}
use Rattle.jc_facts.specs.code.Lengths.{instruction_length, known_length, is_one_byte_long}
use Rattle.jc_write.proofs.Decoded.{fixed}
use Rattle.jc_write.proofs.CodeTyped.{IsStepRead, AreRead, HasRead, drop_tail}

-- the bytes are an instruction that isn't refused, whatever comes behind
pub record IsScanned (a : Around) (pc : ℕ) (bytes : Bytes) : Type 0 where
  pub op : ℕ
  pub tail : Bytes
  pub whole : bytes ≡ op ∷ tail
  pub len : (rest : Bytes) → instruction_length pc op (tail ++ rest) ≡ Ok (suc (length tail))
  pub used_is : (rest : Bytes) → is_some (used a op (operand op (tail ++ rest))) ≡ true

of_read : (a : Around) (pc : ℕ) (s : Step) (bytes : Bytes) → IsStepRead a pc s bytes → IsScanned a pc bytes
of_read a pc s bytes r = record { op = r.op; tail = r.tail; whole = r.whole; len = r.len; used_is = r.used_is }

-- ---- returns

return_len : (r : Option Slot) → known_length (opcode_of_return r) ≡ 1
unfolding known_length is_one_byte_long
return_len None = refl
return_len (Some kinds.Int) = refl
return_len (Some kinds.Long) = refl
return_len (Some kinds.Float) = refl
return_len (Some kinds.Double) = refl
return_len (Some kinds.Ref) = refl

return_used : (a : Around) (r : Option Slot) (i : ℕ) → is_some (used a (opcode_of_return r) i) ≡ true
unfolding used
return_used a None i = refl
return_used a (Some kinds.Int) i = refl
return_used a (Some kinds.Long) i = refl
return_used a (Some kinds.Float) i = refl
return_used a (Some kinds.Double) i = refl
return_used a (Some kinds.Ref) i = refl

return_scanned : (a : Around) (pc : ℕ) (r : Option Slot) → IsScanned a pc (opcode_of_return r ∷ [])
return_scanned a pc r = record { op = opcode_of_return r; tail = []; whole = refl; len = λ rest. fixed pc (opcode_of_return r) 1 rest (return_len r) refl (omega arith); used_is = λ rest. return_used a r _ }

-- ---- all steps

abbrev pub HasScanned : Around → List PoolEntry → Step → Type 0
HasScanned a pool s = (pc : ℕ) → IsScanned a pc (step_bytes pool s)

abbrev pub AreScanned : Around → List PoolEntry → List Step → Type 0
AreScanned a pool [] = Unit {0}
AreScanned a pool (s ∷ ss) = HasScanned a pool s × AreScanned a pool ss

has_read : (a : Around) (pool : List PoolEntry) (s : Step) → HasRead a pool s → HasScanned a pool s
has_read a pool s h = λ pc. of_read a pc s (step_bytes pool s) (h pc)

pub all_scanned : (a : Around) (pool : List PoolEntry) (ss : List Step) → AreRead a pool ss → AreScanned a pool ss
all_scanned a pool [] h = tt
all_scanned a pool (steps.Return r ∷ ss) h = (λ pc. return_scanned a pc r, all_scanned a pool ss h)
all_scanned a pool (s ∷ ss) h = (has_read a pool s h.0, all_scanned a pool ss h.1)

-- ---- the scan

abbrev pub Scans : Around → ℕ → ℕ → ℕ → Bytes → Type 0
Scans a left n pc bytes = (found : List Item) × (scan_at a left n pc bytes ≡ Ok found)

nothing_left : (a : Around) (left n pc : ℕ) → Scans a left n pc []
unfolding scan_at next_at
nothing_left a left zero pc = ([], refl)
nothing_left a left (suc n) pc = let r = nothing_left a left n (pc + 0) in (r.0, rw r.1 refl)

scan_one : (a : Around) (left n pc : ℕ) (bytes rest : Bytes) (r : IsScanned a pc bytes) → Scans a left n (pc + suc (length r.tail)) rest → Scans a left (suc n) pc (r.op ∷ (r.tail ++ rest))
unfolding scan_at instruction_at next_at
scan_one a left n pc bytes rest r h = go (used a r.op (operand r.op (r.tail ++ rest))) refl (r.used_is rest) where
  go : (o : Option (List Item)) → used a r.op (operand r.op (r.tail ++ rest)) ≡ o → is_some o ≡ true → Scans a left (suc n) pc (r.op ∷ (r.tail ++ rest))
  go None e k = absurd cc
  go (Some found) e k = (found ++ h.0, rw (r.len rest, e, drop_tail r.op r.tail rest, h.1) refl)

pub scans : (a : Around) (left : ℕ) (pool : List PoolEntry) (ss : List Step) → AreScanned a pool ss → (n pc : ℕ) → length (steps_bytes pool ss) ≤ n → Scans a left n pc (steps_bytes pool ss)
scans a left pool [] h n pc l = nothing_left a left n pc
scans a left pool (s ∷ ss) h zero pc l =
    let r = h.0 pc in
    let e = ap (λ (bs : Bytes). length (bs ++ steps_bytes pool ss)) r.whole in
    absurd (let q : suc (length (r.tail ++ steps_bytes pool ss)) ≤ 0 = subst (λ (k : ℕ). k ≤ 0) e l in omega (arith, q))
scans a left pool (s ∷ ss) h (suc n) pc l =
    let r = h.0 pc in
    let rest : Bytes = steps_bytes pool ss in
    let e = ap (λ (bs : Bytes). length (bs ++ rest)) r.whole in
    let q : suc (length (r.tail ++ rest)) ≤ suc n = subst (λ (k : ℕ). k ≤ suc n) e l in
    let m = length-append r.tail rest in
    let few : length rest ≤ n = omega (arith, q, m) in
    subst (λ (bs : Bytes). Scans a left (suc n) pc (bs ++ rest)) (sym r.whole) (scan_one a left n pc (step_bytes pool s) rest r (scans a left pool ss h.1 n (pc + suc (length r.tail)) few))
