-- The entries of a pool stand in the file.
use Rattle.std.proofs.Common.{◌≡◌, ◌≢◌, ℕ, suc, zero, Bool, true, false, List, [], ◌∷◌, ◌++◌, length, get_or, refl, sym, ap, subst, ◌∙◌, append_assoc}
use Rattle.jc_desc.specs.Pool.{Slot, PoolOf, nothing, slot_of_index, is_wide_tag}
use Rattle.jc_desc.specs.PoolGrammar.{IsEntry, AreSlots, IsPool}
use Rattle.jc_pool.specs.Law.{Stands}

-- with more bytes in front
further : (front bytes : List ℕ) (s : Slot) → Stands bytes s → Stands (front ++ bytes) s
further front bytes s h = record {
  before = front ++ h.before;
  piece = h.piece;
  after = h.after;
  whole = ap (λ (bs : List ℕ). front ++ bs) h.whole ∙ sym (append_assoc front h.before (s.tag ∷ (h.piece ++ h.after)));
  body_is = h.body_is;
  left_is = h.left_is;
}

same_bytes : (a b : List ℕ) (s : Slot) → a ≡ b → Stands b s → Stands a s
same_bytes a b s e h = subst (λ (bs : List ℕ). Stands bs s) (sym e) h

entry_stands : (follows : Bool) (bytes : List ℕ) (s : Slot) (rest : List ℕ) → IsEntry follows bytes s rest → Stands bytes s
entry_stands follows bytes s rest h = record {
  before = [];
  piece = h.piece;
  after = rest;
  whole = h.whole;
  body_is = h.body_is;
  left_is = h.left_is ∙ ap (λ (bs : List ℕ). length bs) h.whole;
}

slots_stand : (second : Bool) (bytes : List ℕ) (ss : List Slot) (rest : List ℕ) → AreSlots second bytes ss rest → (i : ℕ) → (get_or ss i nothing).tag ≢ 0 → Stands bytes (get_or ss i nothing)
slots_stand second bytes [] rest h i t = absurd (t refl)
slots_stand true bytes (s ∷ ss) rest h zero t = absurd (t (ap (λ (x : Slot). x.tag) h.0))
slots_stand true bytes (s ∷ ss) rest h (suc i) t = slots_stand false bytes ss rest h.1 i t
slots_stand false bytes (s ∷ ss) rest h zero t = entry_stands _ bytes s h.0 h.1
slots_stand false bytes (s ∷ ss) rest h (suc i) t =
    let later = slots_stand (is_wide_tag s.tag) h.0 ss rest h.2 i t in
    let front : List ℕ = s.tag ∷ h.1.piece in
    same_bytes bytes (front ++ h.0) (get_or ss i nothing) h.1.whole (further front h.0 (get_or ss i nothing) later)

pub pool_stands : (bytes : List ℕ) (pool : PoolOf) (rest : List ℕ) (i : ℕ) → IsPool bytes pool rest → (slot_of_index pool.slots i).tag ≢ 0 → Stands bytes (slot_of_index pool.slots i)
pool_stands bytes pool rest i h = subst (λ (ss : List Slot). (slot_of_index ss i).tag ≢ 0 → Stands bytes (slot_of_index ss i)) (sym h.slots_is) (go i) where
  go : (k : ℕ) → (slot_of_index (nothing ∷ h.slots) k).tag ≢ 0 → Stands bytes (slot_of_index (nothing ∷ h.slots) k)
  go zero t = absurd (t refl)
  go (suc k) t =
      let s : Slot = get_or h.slots k nothing in
      let here : Stands h.entries s = slots_stand false h.entries h.slots rest h.slots_are k t in
      let counted : Stands h.after_start s = same_bytes h.after_start (h.count ++ h.entries) s h.whole (further h.count h.entries s here) in
      let versioned : Stands (h.start.minor ++ (h.start.major ++ h.after_start)) s = further h.start.minor (h.start.major ++ h.after_start) s (further h.start.major h.after_start s counted) in
      same_bytes bytes (h.start.magic ++ (h.start.minor ++ (h.start.major ++ h.after_start))) s h.start.whole (further h.start.magic (h.start.minor ++ (h.start.major ++ h.after_start)) s versioned)
