-- No fault is found in what the entries name exactly where each entry meets what is asked of it.
use Rattle.std.proofs.Common.{◌≡◌, ℕ, suc, zero, ◌<◌, Bool, true, false, cond, not, ◌||◌, ◌&&◌, List, [], ◌∷◌, length, get_or, Option, Some, None, refl, sym, ap, ◌∙◌, arith, nat_eq, All}
use Rattle.jc_desc.specs.declared.fault.Fault.{Fault}
use Rattle.jc_desc.specs.declared.fault.Reason.{Reason}
use Rattle.jc_desc.specs.declared.fault.Reason.TheVariants as reasons
use Rattle.jc_desc.specs.Faults.{or_fault, first_fault}
use Rattle.jc_desc.specs.Names.{spells_class_name, spells_member_name, is_init_name, is_clinit_name}
use Rattle.jc_desc.specs.Pool.{Slot, slot_of_index, text_in, name_in, descriptor_in, pair_in, handle_kind, handle_target, refers_rightly, is_meaningful, describes_field, describes_method, names_array, no_result, names_class, names_any_member, names_used_method, fits_handle, names_for_handle}
use Rattle.jc_desc.specs.PoolGrammar.{IsLinked}
use Rattle.jc_desc.specs.PoolSteps.{want, stands, class_fault, pair_fault, field_fault, shape_fault, method_fault, fault_of_handle, meaning_fault, reference_fault, sense_fault, fault_of_links}
use Rattle.jc_desc.specs.Reading.{method_of}

-- ---- one entry

-- no reason is given exactly where the test holds
record Tells (reason : Option Reason) (good : Bool) : Type 0 where
  holds : reason ≡ None → good ≡ true
  quiet : good ≡ true → reason ≡ None

always : Tells None true
always = record { holds = λ e. refl; quiet = λ e. refl }

last_want : (test : Bool) (reason : Reason) → Tells (want test reason None) test
last_want true reason = always
last_want false reason = record { holds = λ e. absurd (let q : Some reason ≡ None = e in cc); quiet = λ e. absurd (let q : false ≡ true = e in cc) }

next_want : (test : Bool) (reason : Reason) (next : Option Reason) (good : Bool) → Tells next good → Tells (want test reason next) (test && good)
next_want true reason next good h = h
next_want false reason next good h = record { holds = λ e. absurd (let q : Some reason ≡ None = e in cc); quiet = λ e. absurd (let q : false ≡ true = e in cc) }

either : (test : Bool) (a b : Option Reason) (c d : Bool) → Tells a c → Tells b d → Tells (cond test a b) (cond test c d)
either true a b c d h k = h
either false a b c d h k = k

regroup : (method name other init interface void : Bool) → (method && ((name && other && not (interface && init)) && (not init || void))) ≡ (method && name && other && (not init || (not interface && void)))
regroup false name other init interface void = refl
regroup true false other init interface void = refl
regroup true true false init interface void = refl
regroup true true true false true void = refl
regroup true true true false false void = refl
regroup true true true true true void = refl
regroup true true true true false void = refl

method_tells : (interface : Bool) (name descriptor : List ℕ) → Tells (method_fault interface name descriptor) (names_used_method interface name descriptor)
method_tells interface name descriptor =
    let void : Bool = no_result (method_of descriptor) in
    let named : Bool = spells_member_name name true && not (is_clinit_name name) && not (interface && is_init_name name) in
    let steps : Tells (method_fault interface name descriptor) (describes_method descriptor && (named && (not (is_init_name name) || void))) =
    next_want (describes_method descriptor) reasons.BadDescriptor _ (named && (not (is_init_name name) || void))
    (next_want named reasons.BadName _ (not (is_init_name name) || void) (last_want (not (is_init_name name) || void) reasons.BadDescriptor)) in
    let same : (describes_method descriptor && (named && (not (is_init_name name) || void))) ≡ names_used_method interface name descriptor =
    regroup (describes_method descriptor) (spells_member_name name true) (not (is_clinit_name name)) (is_init_name name) interface void in
    record { holds = λ e. sym same ∙ steps.holds e; quiet = λ e. steps.quiet (same ∙ e) }

class_tells : (text : List ℕ) → Tells (class_fault text) (names_class text)
class_tells text = last_want (spells_class_name text || names_array text) reasons.BadName

pair_tells : (name descriptor : List ℕ) → Tells (pair_fault name descriptor) (names_any_member name descriptor)
pair_tells name descriptor =
    next_want (spells_member_name name false || spells_member_name name true) reasons.BadName _ (describes_field descriptor || describes_method descriptor)
    (last_want (describes_field descriptor || describes_method descriptor) reasons.BadDescriptor)

field_tells : (descriptor : List ℕ) → Tells (field_fault descriptor) (describes_field descriptor)
field_tells descriptor = last_want (describes_field descriptor) reasons.BadDescriptor

shape_tells : (descriptor : List ℕ) → Tells (shape_fault descriptor) (describes_method descriptor)
shape_tells descriptor = last_want (describes_method descriptor) reasons.BadDescriptor

handle_tells : (kind tag : ℕ) (name : List ℕ) → Tells (fault_of_handle kind tag name) (fits_handle kind tag && names_for_handle kind name)
handle_tells kind tag name = next_want (fits_handle kind tag) reasons.BadIndex _ (names_for_handle kind name) (last_want (names_for_handle kind name) reasons.BadName)

meaning_tells : (slots : List Slot) (s : Slot) → Tells (meaning_fault slots s) (is_meaningful slots s)
unfolding meaning_fault is_meaningful
meaning_tells slots s =
    let named : Slot = pair_in slots s in
    let used : Slot = slot_of_index slots (handle_target s) in
    either (nat_eq s.tag 7) _ _ _ _ (class_tells (text_in slots s))
    (either (nat_eq s.tag 12) _ _ _ _ (pair_tells (name_in slots s) (descriptor_in slots s))
    (either (nat_eq s.tag 9) _ _ _ _ (field_tells (descriptor_in slots named))
    (either (nat_eq s.tag 10) _ _ _ _ (method_tells false (name_in slots named) (descriptor_in slots named))
    (either (nat_eq s.tag 11) _ _ _ _ (method_tells true (name_in slots named) (descriptor_in slots named))
    (either (nat_eq s.tag 15) _ _ _ _ (handle_tells (handle_kind s) used.tag (name_in slots (pair_in slots used)))
    (either (nat_eq s.tag 16) _ _ _ _ (shape_tells (text_in slots s))
    (either (nat_eq s.tag 17) _ _ _ _ (field_tells (descriptor_in slots named))
    (either (nat_eq s.tag 18) _ _ _ _ (shape_tells (descriptor_in slots named)) always))))))))

stands_none : (s : Slot) (reason : Option Reason) → stands s reason ≡ None → reason ≡ None
stands_none s None e = refl
stands_none s (Some reason) e = absurd cc

entry_linked : (slots : List Slot) (s : Slot) → reference_fault slots s ≡ None → sense_fault slots s ≡ None → IsLinked slots s
entry_linked slots s r m = record {
  refers_well = (last_want (refers_rightly slots s) reasons.BadIndex).holds (stands_none s (want (refers_rightly slots s) reasons.BadIndex None) r);
  means_well = (meaning_tells slots s).holds (stands_none s (meaning_fault slots s) m);
}

refers_again : (slots : List Slot) (s : Slot) → IsLinked slots s → reference_fault slots s ≡ None
refers_again slots s h = ap (λ (r : Option Reason). stands s r) ((last_want (refers_rightly slots s) reasons.BadIndex).quiet h.refers_well)

means_again : (slots : List Slot) (s : Slot) → IsLinked slots s → sense_fault slots s ≡ None
means_again slots s h = ap (λ (r : Option Reason). stands s r) ((meaning_tells slots s).quiet h.means_well)

-- ---- all entries

or_none : {A : Type 0} (a b : Option A) → or_fault a b ≡ None → (a ≡ None) × (b ≡ None)
or_none {A} None b h = (refl, h)
or_none {A} (Some x) b h = absurd cc

-- where no item has a fault, none has at its index
no_fault_at : (judge : Slot → Option Fault) (ss : List Slot) → first_fault judge ss ≡ None → (i : ℕ) (d : Slot) → i < length ss → judge (get_or ss i d) ≡ None
no_fault_at judge [] h i d l = absurd (let q : i < 0 = l in omega arith)
no_fault_at judge (s ∷ ss) h zero d l = (or_none (judge s) (first_fault judge ss) h).0
no_fault_at judge (s ∷ ss) h (suc i) d l = no_fault_at judge ss (or_none (judge s) (first_fault judge ss) h).1 i d (let q : suc i < suc (length ss) = l in omega arith)

no_faults : (judge : Slot → Option Fault) (ss : List Slot) → ((i : ℕ) (d : Slot) → i < length ss → judge (get_or ss i d) ≡ None) → first_fault judge ss ≡ None
no_faults judge [] h = refl
no_faults judge (s ∷ ss) h =
    let here : judge s ≡ None = h 0 s (let q : 0 < suc (length ss) = omega arith in q) in
    let others : first_fault judge ss ≡ None = no_faults judge ss (λ i d l. h (suc i) d (let q : suc i < suc (length ss) = omega (arith, l) in q)) in
    rw (here, others) refl

pub all_linked : (slots : List Slot) → fault_of_links slots ≡ None → All (IsLinked slots) slots
all_linked slots h =
    let both = or_none (first_fault (reference_fault slots) slots) (first_fault (sense_fault slots) slots) h in
    λ i d l. entry_linked slots (get_or slots i d) (no_fault_at (reference_fault slots) slots both.0 i d l) (no_fault_at (sense_fault slots) slots both.1 i d l)

pub links_again : (slots : List Slot) → All (IsLinked slots) slots → fault_of_links slots ≡ None
links_again slots h =
    let r = no_faults (reference_fault slots) slots (λ i d l. refers_again slots (get_or slots i d) (h i d l)) in
    let m = no_faults (sense_fault slots) slots (λ i d l. means_again slots (get_or slots i d) (h i d l)) in
    rw (r, m) refl
