-- Entries that refer to nothing.
use Rattle.std.proofs.Common.{◌≡◌, ℕ, ◌+◌, ◌<◌, List, length, drop, get_or, Option, None, refl, sym, ◌∙◌, ap}
use Rattle.std.proofs.lemmas.List.{at_drop_more}
use Rattle.jc_desc.specs.declared.fault.Fault.{Fault}
use Rattle.jc_desc.specs.Faults.{first_fault, or_fault}
use Rattle.jc_desc.specs.Pool as pool
use Rattle.jc_desc.specs.Pool.{refers_rightly}
use Rattle.jc_desc.specs.PoolSteps.{reference_fault, sense_fault, meaning_fault}
use Rattle.jc_desc.specs.Tags as tags
use Rattle.jc_pool.specs.Slots.{slot_of, slots_of}
use Rattle.jc_pool.specs.declared.entry.Slot.{Slot}

pub text_refers : (slots : List pool.Slot) (s : pool.Slot) → s.tag ≡ tags.utf8 → reference_fault slots s ≡ None
unfolding refers_rightly
text_refers slots s h = rw h refl

pub text_means : (slots : List pool.Slot) (s : pool.Slot) → s.tag ≡ tags.utf8 → sense_fault slots s ≡ None
unfolding meaning_fault
text_means slots s h = rw h refl

-- an entry without a fault is passed over
pub passed : (judge : pool.Slot → Option Fault) (entries : List Slot) (i : ℕ) (d : Slot) (total : Option Fault) → i < length entries → judge (slot_of (get_or entries i d)) ≡ None
    → first_fault judge (slots_of (drop i entries)) ≡ total → first_fault judge (slots_of (drop (i + 1) entries)) ≡ total
passed judge entries i d total l n h =
    let others = first_fault judge (slots_of (drop (i + 1) entries)) in
    let split : first_fault judge (slots_of (drop i entries)) ≡ or_fault (judge (slot_of (get_or entries i d))) others = at_drop_more (λ (xs : List Slot). first_fault judge (slots_of xs)) entries i d l in
    let skip : or_fault (judge (slot_of (get_or entries i d))) others ≡ others = ap (λ (f : Option Fault). or_fault f others) n in
    sym (split ∙ skip) ∙ h
