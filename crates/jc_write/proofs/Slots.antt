-- What the indices of a pool that is written hold.
use Rattle.std.proofs.Common.{◌≡◌, ◌≢◌, ℕ, suc, ◌+◌, ◌<◌, ◌≤◌, ◌^◌, Bool, true, false, not, ◌&&◌, ◌||◌, List, [], ◌∷◌, ◌++◌, length, get_or, Some, refl, sym, ap, subst, ◌∙◌, arith, nat_eq, nat_lt, ◌⊎◌, inl, inr, append_assoc}
use Rattle.std.specs.List.{list_all, position_or_len}
use Rattle.std.specs.Prelude.{nat_le}
use Rattle.std.proofs.lemmas.Bool.{and_parts, eqb-true, leb-true}
use Rattle.std.proofs.lemmas.List.{append-nil}
use Rattle.byteorder.specs.Endian.{big_bytes, big_number}
use Rattle.byteorder.specs.Numbers.{big_number-reads_back, length-bytes_high_first}
use Rattle.jc_desc.specs.Pool.{Slot, nothing, slot_of_index, is_wide_tag, body_length, short_from}
use Rattle.jc_desc.specs.PoolGrammar.{IsNumber, IsBody, AreSlots}
use Rattle.jc_desc.proofs.Grammar.{chosen}
use Rattle.jc_facts.specs.Names.{Bytes}
use Rattle.jc_facts.specs.written.PoolEntries.{two, joined, PoolEntry, text, class, pair, member, same_entry, has, index_of, tag_of, body_of, length_before, entry_bytes, is_good, class_is_good, pair_is_good, use_is_good, fits}
use Rattle.jc_write.proofs.Collected.{within}
use Rattle.jc_write.specs.steps.EntryOrder.{entry_is}

-- ---- numbers

pub number : (n x : ℕ) → x < 256 ^ n → IsNumber n (big_bytes n x) x
number n x h =
    let e : big_number n (big_bytes n x ++ []) ≡ x = big_number-reads_back n x [] h in
    record { size = length-bytes_high_first n x; value_is = sym (ap (λ (bs : Bytes). big_number n bs) (sym (append-nil (big_bytes n x))) ∙ e) }

-- the indices in an entry's bytes
pub one_index : (i : ℕ) → i < 65536 → short_from 0 (two i) ≡ i
one_index i h = big_number-reads_back 2 i [] h

pub first_index : (i j : ℕ) → i < 65536 → short_from 0 (two i ++ two j) ≡ i
first_index i j h = big_number-reads_back 2 i (two j) h

pub second_index : (i j : ℕ) → j < 65536 → short_from 2 (two i ++ two j) ≡ j
second_index i j h = big_number-reads_back 2 j [] h

-- ---- the slots of a pool

abbrev pub slot_of : List PoolEntry → ℕ → PoolEntry → Slot
slot_of pool left e = record { tag = tag_of e; body = body_of pool e; left = left }

-- with these bytes behind
abbrev pub slots_in : List PoolEntry → List PoolEntry → Bytes → List Slot
slots_in pool [] rest = []
slots_in pool (e ∷ es) rest = slot_of pool (length (joined (entry_bytes pool) (e ∷ es) ++ rest)) e ∷ slots_in pool es rest

pub slots_length : (pool es : List PoolEntry) (rest : Bytes) → length (slots_in pool es rest) ≡ length es
slots_length pool [] rest = refl
slots_length pool (e ∷ es) rest = ap (λ (n : ℕ). suc n) (slots_length pool es rest)

-- a list of slots has the entry at its place
abbrev Found : List PoolEntry → List Slot → ℕ → PoolEntry → Type 0
Found pool slots k e = (left : ℕ) × (get_or slots k nothing ≡ slot_of pool left e)

found : (pool es : List PoolEntry) (rest : Bytes) (e : PoolEntry) → has es e ≡ true → Found pool (slots_in pool es rest) (position_or_len (same_entry e) es) e
found pool [] rest e h = absurd cc
found pool (f ∷ es) rest e h = go (same_entry e f) refl h (found pool es rest e) where
  later : (k : ℕ) → Found pool (slots_in pool es rest) k e → Found pool (slots_in pool (f ∷ es) rest) (1 + k) e
  later k w = subst (λ (n : ℕ). Found pool (slots_in pool (f ∷ es) rest) n e) (let q : suc k ≡ 1 + k = omega arith in q) w

  go : (b : Bool) → same_entry e f ≡ b → (b || has es e) ≡ true → (has es e ≡ true → Found pool (slots_in pool es rest) (position_or_len (same_entry e) es) e) → Found pool (slots_in pool (f ∷ es) rest) (position_or_len (same_entry e) (f ∷ es)) e
  go true s k ih = rw s (length (joined (entry_bytes pool) (f ∷ es) ++ rest), ap (λ (g : PoolEntry). slot_of pool (length (joined (entry_bytes pool) (f ∷ es) ++ rest)) g) (sym (entry_is e f s)))
  go false s k ih = rw s (later (position_or_len (same_entry e) es) (ih k))

-- slots that hold each entry of a pool at its index
pub record HoldEntries (pool : List PoolEntry) (slots : List Slot) : Type 0 where
  pub few : length pool ≤ 65534
  pub each : (e : PoolEntry) → has pool e ≡ true → (left : ℕ) × (slot_of_index slots (index_of pool e) ≡ slot_of pool left e)

pub hold_entries : (pool : List PoolEntry) (rest : Bytes) → length pool ≤ 65534 → HoldEntries pool (nothing ∷ slots_in pool pool rest)
hold_entries pool rest h = record { few = h; each = λ e k. found pool pool rest e k }

pub below : (pool : List PoolEntry) (e : PoolEntry) → length pool ≤ 65534 → has pool e ≡ true → index_of pool e < 65536
below pool e h k = let w = within (same_entry e) pool k in omega (arith, h, w)

-- ---- the bytes of entries are entries

-- the tags of references to members
pub tag_is : (t : ℕ) (n d : Bytes) → use_is_good t n d ≡ true → (t ≡ 9) ⊎ ((t ≡ 10) ⊎ (t ≡ 11))
tag_is t n d h = elim (chosen (nat_eq t 9) _ _ _ h) [
  | inl a ↦ inl (eqb-true t 9 a.0)
  | inr a ↦ elim (chosen (nat_eq t 10) _ _ _ a.1) [
    | inl b ↦ inr (inl (eqb-true t 10 b.0))
    | inr b ↦ elim (chosen (nat_eq t 11) _ _ _ b.1) [
      | inl c ↦ inr (inr (eqb-true t 11 c.0))
      | inr c ↦ absurd (let q : false ≡ true = c.1 in cc)
    ]
  ]
]

-- four bytes behind a tag that is no Utf8 and takes one index
record IsPlainTag (t : ℕ) : Type 0 where
  other : t ≢ 1
  size : body_length t ≡ Some 4
  one : is_wide_tag t ≡ false

member_tag : (t : ℕ) (n d : Bytes) → use_is_good t n d ≡ true → IsPlainTag t
member_tag t n d h = elim (tag_is t n d h) [
  | inl a ↦ subst IsPlainTag (sym a) (record { other = λ e. let q : 9 ≡ 1 = e in absurd (omega arith); size = refl; one = refl })
  | inr a ↦ elim a [
    | inl b ↦ subst IsPlainTag (sym b) (record { other = λ e. let q : 10 ≡ 1 = e in absurd (omega arith); size = refl; one = refl })
    | inr b ↦ subst IsPlainTag (sym b) (record { other = λ e. let q : 11 ≡ 1 = e in absurd (omega arith); size = refl; one = refl })
  ]
]

pub good_use : (t : ℕ) (c n d : Bytes) → is_good (member t c n d) ≡ true → use_is_good t n d ≡ true
good_use t c n d h = (and_parts (class_is_good c && pair_is_good n d) (use_is_good t n d) h).1

narrow : (e : PoolEntry) → is_good e ≡ true → is_wide_tag (tag_of e) ≡ false
narrow (text t) h = refl
narrow (class c) h = refl
narrow (pair n d) h = refl
narrow (member t c n d) h = (member_tag t n d (good_use t c n d h)).one

fits_two : (n : ℕ) → nat_le n 65535 ≡ true → n < 65536
fits_two n h = let l = leb-true n 65535 h in omega (arith, l)

body_stands : (pool : List PoolEntry) (e : PoolEntry) → is_good e ≡ true → fits e ≡ true → IsBody (tag_of e) (length_before e ++ body_of pool e) (body_of pool e)
body_stands pool (text t) h f = inl (refl, record { len = two (length t); len_is = number 2 (length t) (fits_two (length t) f); whole = refl; text = h })
body_stands pool (class c) h f = inr (record { other = λ e. let q : 7 ≡ 1 = e in absurd (omega arith); size = refl; whole = refl })
body_stands pool (pair n d) h f = inr (record { other = λ e. let q : 12 ≡ 1 = e in absurd (omega arith); size = refl; whole = refl })
body_stands pool (member t c n d) h f = let m = member_tag t n d (good_use t c n d h) in inr (record { other = m.other; size = m.size; whole = refl })

or_not : (a b : Bool) → b ≡ false → (a || not b) ≡ true
or_not true b h = refl
or_not false b h = rw h refl

pub slots_stand : (pool es : List PoolEntry) (rest : Bytes) → list_all is_good es ≡ true → list_all fits es ≡ true → AreSlots false (joined (entry_bytes pool) es ++ rest) (slots_in pool es rest) rest
slots_stand pool [] rest h f = refl
slots_stand pool (e ∷ es) rest h f =
    let g = and_parts (is_good e) (list_all is_good es) h in
    let k = and_parts (fits e) (list_all fits es) f in
    let next : Bytes = joined (entry_bytes pool) es ++ rest in
    let ss : List Slot = slots_in pool es rest in
    let w : is_wide_tag (tag_of e) ≡ false = narrow e g.0 in (
      next,
      record {
        piece = length_before e ++ body_of pool e;
        whole = ap (λ (bs : Bytes). tag_of e ∷ bs) (append_assoc (length_before e ++ body_of pool e) (joined (entry_bytes pool) es) rest);
        body_is = body_stands pool e g.0 k.0;
        left_is = refl;
        room = or_not (nat_lt 0 (length ss)) (is_wide_tag (tag_of e)) w;
      },
      subst (λ (b : Bool). AreSlots b next ss rest) (sym w) (slots_stand pool es rest g.1 k.1),
    )
