-- Members and handles that a pool answers have the form that is asked for.
use Rattle.std.proofs.Common.{◌≡◌, ◌≢◌, ℕ, Bool, true, false, ◌&&◌, ◌||◌, nat_eq, List, Some, refl, sym, subst, ◌∙◌, arith, ◌⊎◌, inl, inr}
use Rattle.std.proofs.lemmas.Bool.{eqb-true, and_parts}
use Rattle.std.proofs.lemmas.Bool.Decides.{nat_tests}
use Rattle.jc_desc.specs.Pool.{Slot, PoolOf, slot_of_index, first_of, second_of, holds_tag, text_in, name_in, descriptor_in, pair_in, handle_kind, handle_target, refers_rightly, is_member_reference, is_meaningful, names_class, names_any_member, describes_field, names_used_method, fits_handle, names_for_handle}
use Rattle.jc_desc.specs.PoolAnswers.{MemberRefOf, HandleRefOf, member_of, member_ref_in, handle_in}
use Rattle.jc_desc.specs.PoolGrammar.{IsLinked, IsPool}
use Rattle.jc_desc.proofs.Sound.{some_if_is, linked_at}
use Rattle.jc_pool.specs.Law.{IsSoundMember, IsSoundHandle}

one_of_three : (tag : ℕ) → is_member_reference tag ≡ true → (tag ≡ 9) ⊎ ((tag ≡ 10) ⊎ (tag ≡ 11))
one_of_three tag h = go (nat_eq tag 9) (nat_eq tag 10) (nat_eq tag 11) refl refl refl h where
  go : (a b d : Bool) → nat_eq tag 9 ≡ a → nat_eq tag 10 ≡ b → nat_eq tag 11 ≡ d → (a || b || d) ≡ true → (tag ≡ 9) ⊎ ((tag ≡ 10) ⊎ (tag ≡ 11))
  go true b d ea eb ed h = inl (eqb-true tag 9 ea)
  go false true d ea eb ed h = inr (inl (eqb-true tag 10 eb))
  go false false true ea eb ed h = inr (inr (eqb-true tag 11 ed))
  go false false false ea eb ed h = absurd (let q : false ≡ true = h in cc)

-- the class and the NameAndType that a reference leads to
leads : (slots : List Slot) (s : Slot) → is_member_reference s.tag ≡ true → refers_rightly slots s ≡ true → (holds_tag slots 7 (first_of s) ≡ true) × (holds_tag slots 12 (second_of s) ≡ true)
unfolding refers_rightly
leads slots s r h = elim (one_of_three s.tag r) [
  | inl t ↦ and_parts (holds_tag slots 7 (first_of s)) (holds_tag slots 12 (second_of s)) (rw t at h)
  | inr o ↦ elim o [
    | inl t ↦ and_parts (holds_tag slots 7 (first_of s)) (holds_tag slots 12 (second_of s)) (rw t at h)
    | inr t ↦ and_parts (holds_tag slots 7 (first_of s)) (holds_tag slots 12 (second_of s)) (rw t at h)
  ]
]

class_means : (slots : List Slot) (c : Slot) → c.tag ≡ 7 → is_meaningful slots c ≡ true → names_class (text_in slots c) ≡ true
unfolding is_meaningful
class_means slots c t h = rw t at h

pair_means : (slots : List Slot) (p : Slot) → p.tag ≡ 12 → is_meaningful slots p ≡ true → names_any_member (name_in slots p) (descriptor_in slots p) ≡ true
unfolding is_meaningful
pair_means slots p t h = rw t at h

field_means : (slots : List Slot) (s : Slot) → s.tag ≡ 9 → is_meaningful slots s ≡ true → describes_field (descriptor_in slots (pair_in slots s)) ≡ true
unfolding is_meaningful
field_means slots s t h = rw t at h

method_means : (slots : List Slot) (s : Slot) → s.tag ≡ 10 → is_meaningful slots s ≡ true → names_used_method false (name_in slots (pair_in slots s)) (descriptor_in slots (pair_in slots s)) ≡ true
unfolding is_meaningful
method_means slots s t h = rw t at h

interface_means : (slots : List Slot) (s : Slot) → s.tag ≡ 11 → is_meaningful slots s ≡ true → names_used_method true (name_in slots (pair_in slots s)) (descriptor_in slots (pair_in slots s)) ≡ true
unfolding is_meaningful
interface_means slots s t h = rw t at h

handle_means : (slots : List Slot) (s : Slot) → s.tag ≡ 15 → is_meaningful slots s ≡ true → (fits_handle (handle_kind s) (slot_of_index slots (handle_target s)).tag && names_for_handle (handle_kind s) (name_in slots (pair_in slots (slot_of_index slots (handle_target s))))) ≡ true
unfolding is_meaningful
handle_means slots s t h = rw t at h

some_tag : (n m : ℕ) → n ≡ m → m ≢ 0 → n ≢ 0
some_tag n m e k z = k (sym e ∙ z)

ref_tag : (tag : ℕ) → is_member_reference tag ≡ true → tag ≢ 0
ref_tag tag h z = absurd (let q : is_member_reference 0 ≡ true = subst (λ (t : ℕ). is_member_reference t ≡ true) z h in cc)

member_sound : (bytes : List ℕ) (pool : PoolOf) (rest : List ℕ) (i : ℕ) → IsPool bytes pool rest → is_member_reference (slot_of_index pool.slots i).tag ≡ true → IsSoundMember (member_of pool.slots (slot_of_index pool.slots i))
member_sound bytes pool rest i h r =
    let s : Slot = slot_of_index pool.slots i in
    let linked : IsLinked pool.slots s = linked_at bytes pool rest h i (ref_tag s.tag r) in
    let to = leads pool.slots s r linked.refers_well in
    let seven : (slot_of_index pool.slots (first_of s)).tag ≡ 7 = eqb-true _ 7 to.0 in
    let twelve : (slot_of_index pool.slots (second_of s)).tag ≡ 12 = eqb-true _ 12 to.1 in
    let class : IsLinked pool.slots (slot_of_index pool.slots (first_of s)) = linked_at bytes pool rest h (first_of s) (some_tag _ 7 seven (omega arith)) in
    let pair : IsLinked pool.slots (slot_of_index pool.slots (second_of s)) = linked_at bytes pool rest h (second_of s) (some_tag _ 12 twelve (omega arith)) in
    record {
      class_well = class_means pool.slots (slot_of_index pool.slots (first_of s)) seven class.means_well;
      named_well = pair_means pool.slots (slot_of_index pool.slots (second_of s)) twelve pair.means_well;
      field = λ t. field_means pool.slots s t linked.means_well;
      method = λ t. method_means pool.slots s t linked.means_well;
      interface_method = λ t. interface_means pool.slots s t linked.means_well;
    }

pub member_ref_sound : (bytes : List ℕ) (pool : PoolOf) (rest : List ℕ) (i : ℕ) (m : MemberRefOf) → IsPool bytes pool rest → member_ref_in pool i ≡ Some m → IsSoundMember m
member_ref_sound bytes pool rest i m h e =
    let p = some_if_is (is_member_reference (slot_of_index pool.slots i).tag) (member_of pool.slots (slot_of_index pool.slots i)) m e in
    subst (λ (k : MemberRefOf). IsSoundMember k) p.1 (member_sound bytes pool rest i h p.0)

fits_ref : (kind tag : ℕ) → fits_handle kind tag ≡ true → is_member_reference tag ≡ true
fits_ref kind tag h = grind (arith, nat_tests)

pub handle_sound : (bytes : List ℕ) (pool : PoolOf) (rest : List ℕ) (i : ℕ) (k : HandleRefOf) → IsPool bytes pool rest → handle_in pool i ≡ Some k → IsSoundHandle k
handle_sound bytes pool rest i k h e =
    let s : Slot = slot_of_index pool.slots i in
    let used : ℕ = handle_target s in
    let p = some_if_is (holds_tag pool.slots 15 i) (record { kind = handle_kind s; member = member_of pool.slots (slot_of_index pool.slots used) }) k e in
    let fifteen : s.tag ≡ 15 = eqb-true s.tag 15 p.0 in
    let linked : IsLinked pool.slots s = linked_at bytes pool rest h i (some_tag s.tag 15 fifteen (omega arith)) in
    let means = and_parts (fits_handle (handle_kind s) (slot_of_index pool.slots used).tag) (names_for_handle (handle_kind s) (name_in pool.slots (pair_in pool.slots (slot_of_index pool.slots used)))) (handle_means pool.slots s fifteen linked.means_well) in
    subst (λ (r : HandleRefOf). IsSoundHandle r) p.1 (record {
      fits = means.0;
      names = means.1;
      member_well = member_sound bytes pool rest used h (fits_ref (handle_kind s) (slot_of_index pool.slots used).tag means.0);
    })
