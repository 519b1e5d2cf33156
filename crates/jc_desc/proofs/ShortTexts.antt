-- A text of an entry has at most 65,535 bytes, as the two bytes of its length say (JVMS 4.4.7).
use Rattle.std.proofs.Common.{◌≡◌, ℕ, ◌≤◌, ◌<◌, Bool, true, false, List, [], ◌∷◌, ◌++◌, length, zero, suc, Some, refl, sym, subst, inl, inr, arith}
use Rattle.std.proofs.lemmas.Bool.{eqb-true}
use Rattle.std.specs.List.{AllByRecursion}
use Rattle.jc_desc.specs.Pool.{Slot, PoolOf, holds_tag, is_wide_tag, slot_of_index}
use Rattle.jc_desc.specs.PoolAnswers.{utf8_in, some_if}
use Rattle.jc_desc.specs.PoolGrammar.{IsBody, IsNumber, AreSlots, IsPool}
use Rattle.jc_desc.specs.Tags as tags

-- each is a byte
abbrev pub AreBytes : List ℕ → Type 0
AreBytes bytes = AllByRecursion (λ b. b < 256) bytes

split : (xs ys : List ℕ) → AreBytes (xs ++ ys) → AreBytes xs × AreBytes ys
split [] ys h = (tt, h)
split (x ∷ xs) ys h = let more = split xs ys h.1 in ((h.0, more.0), more.1)

short : (bytes : List ℕ) (n : ℕ) → IsNumber 2 bytes n → AreBytes bytes → n ≤ 65535
short [] n is h = absurd (let e = is.size in cc)
short (a ∷ []) n is h = absurd (let e = is.size in cc)
short (a ∷ b ∷ bytes) n is h = omega (arith, is.value_is, h.0, h.1.0)

-- the text of a Utf8 is short
abbrev IsShort : Slot → Type 0
IsShort s = s.tag ≡ tags.utf8 → length s.body ≤ 65535

short_body : (tag : ℕ) (piece body : List ℕ) → IsBody tag piece body → AreBytes piece → tag ≡ tags.utf8 → length body ≤ 65535
short_body tag piece body (inl x) h e = short x.1.len (length body) x.1.len_is (split x.1.len body (subst AreBytes x.1.whole h)).0
short_body tag piece body (inr x) h e = absurd (x.other e)

short_slots : (second : Bool) (bytes : List ℕ) (ss : List Slot) (rest : List ℕ) → AreSlots second bytes ss rest → AreBytes bytes → AllByRecursion IsShort ss
short_slots second bytes [] rest h k = tt
short_slots true bytes (s ∷ ss) rest h k = (subst IsShort (sym h.0) (λ e. absurd cc), short_slots false bytes ss rest h.1 k)
short_slots false bytes (s ∷ ss) rest h k =
    let is = h.1 in
    let parts = split is.piece h.0 (subst AreBytes is.whole k).1 in
    (short_body s.tag is.piece s.body is.body_is parts.0, short_slots (is_wide_tag s.tag) h.0 ss rest h.2 parts.1)

at : (ss : List Slot) (i : ℕ) → AllByRecursion IsShort ss → IsShort (slot_of_index ss i)
at [] i h e = absurd cc
at (s ∷ ss) zero h e = h.0 e
at (s ∷ ss) (suc i) h e = at ss i h.1 e

pub short_text : (bytes : List ℕ) (pool : PoolOf) (rest : List ℕ) → IsPool bytes pool rest → AreBytes bytes → (i : ℕ) (text : List ℕ) → utf8_in pool i ≡ Some text → length text ≤ 65535
short_text bytes pool rest is h i text e = go (holds_tag pool.slots tags.utf8 i) refl e
  where
    start : AreBytes is.entries
    start =
        let a = (split is.start.magic _ (subst AreBytes is.start.whole h)).1 in
        let b = (split is.start.minor _ a).1 in
        let d = (split is.start.major _ b).1 in
        (split is.count is.entries (subst AreBytes is.whole d)).1

    all : AllByRecursion IsShort pool.slots
    all = subst (AllByRecursion IsShort) (sym is.slots_is) ((λ e. absurd cc), short_slots false is.entries is.slots rest is.slots_are start)

    go : (b : Bool) → holds_tag pool.slots tags.utf8 i ≡ b → some_if b (slot_of_index pool.slots i).body ≡ Some text → length text ≤ 65535
    go true t e = let is_text : (slot_of_index pool.slots i).body ≡ text = cc in subst (λ (x : List ℕ). length x ≤ 65535) is_text (at pool.slots i all (eqb-true _ _ t))
    go false t e = absurd cc
