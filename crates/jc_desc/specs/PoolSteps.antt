-- The steps of reading a constant pool in their order, and the first fault that they meet.
use Rattle.std.specs.Prelude.{◌≡◌, ℕ, zero, suc, ◌-◌, List, [], ◌∷◌, length, Option, Some, None, Result, Ok, Err, Bool, true, false, ◌==◌, ◌||◌, ◌&&◌, not, nat_lt, if◌then◌else◌}
use Rattle.jc_desc.specs.declared.fault.Fault.{Fault}
use Rattle.jc_desc.specs.declared.fault.Reason.{Reason}
use Rattle.jc_desc.specs.declared.fault.Reason.TheVariants as reasons
use Rattle.jc_desc.specs.Faults.{◌>>=◌, fault, number_at, part_at, check, first_fault, unless, or_fault}
use Rattle.jc_desc.specs.Names.{spells_class_name, spells_member_name, is_init_name, is_clinit_name}
use Rattle.jc_desc.specs.Pool.{Slot, PoolOf, nothing, is_known_version, body_length, is_wide_tag, slot_of_index, text_in, name_in, descriptor_in, pair_in, handle_kind, handle_target, refers_rightly, describes_field, describes_method, names_array, no_result, fits_handle, names_for_handle}
use Rattle.jc_desc.specs.Reading.{method_of}
use Rattle.jc_desc.specs.Tags as tags
use Rattle.jc_desc.specs.Utf8.{is_modified_utf8}

-- ---- the start

-- the magic, then minor and major, which is given: BadMagic at the first byte, BadVersion at the
-- minor
unfoldable pub start_at : List ℕ → Result (ℕ × List ℕ) Fault
start_at bytes = do
  magic ← number_at 4 bytes
  minor ← check (magic.0 == 0xcafe_babe) (length bytes) reasons.BadMagic (number_at 2 magic.1)
  major ← number_at 2 minor.1
  check (is_known_version minor.0 major.0) (length magic.1) reasons.BadVersion (Ok (major.0, major.1))

-- ---- the entries

-- a length of two bytes, and so many bytes
abbrev pub utf8_from : List ℕ → Result (List ℕ × List ℕ) Fault
utf8_from bytes = do
  len ← number_at 2 bytes
  part_at len.0 len.1

-- so many bytes, if the tag has a length
abbrev pub sized_at : Option ℕ → ℕ → List ℕ → Result (List ℕ × List ℕ) Fault
sized_at None left bytes = fault left reasons.BadTag
sized_at (Some n) left bytes = part_at n bytes

-- what follows a tag, at which so many bytes are left: BadTag at the tag
unfoldable pub body_from : ℕ → ℕ → List ℕ → Result (List ℕ × List ℕ) Fault
body_from left tag bytes = if tag == tags.utf8 then utf8_from bytes else sized_at (body_length tag) left bytes

-- an entry, after which the pool has another index or not: BadIndex and BadUtf8 at the tag
unfoldable pub entry_from : Bool → List ℕ → Result (Slot × List ℕ) Fault
entry_from follows bytes = do
  tag ← number_at 1 bytes
  body ← body_from (length bytes) tag.0 tag.1
  check (follows || not (is_wide_tag tag.0)) (length bytes) reasons.BadIndex
      (check (not (tag.0 == tags.utf8) || is_modified_utf8 body.0) (length bytes) reasons.BadUtf8
      (Ok (record { tag = tag.0; body = body.0; left = length bytes }, body.1)))

-- the entries of n indices, where the first index is the second one of a Long or a Double or not
unfoldable pub slots_at : Bool → ℕ → List ℕ → Result (List Slot × List ℕ) Fault
slots_at second zero bytes = Ok ([], bytes)
slots_at true (suc n) bytes = do
  others ← slots_at false n bytes
  Ok (nothing ∷ others.0, others.1)
slots_at false (suc n) bytes = do
  entry ← entry_from (nat_lt 0 n) bytes
  others ← slots_at (is_wide_tag entry.0.tag) n entry.1
  Ok (entry.0 ∷ others.0, others.1)

-- ---- what the entries name

-- this reason where the test fails, else the next
abbrev pub want : Bool → Reason → Option Reason → Option Reason
want true reason next = next
want false reason next = Some reason

-- of the name of a Class
abbrev pub class_fault : List ℕ → Option Reason
class_fault text = want (spells_class_name text || names_array text) reasons.BadName None

-- of name and descriptor of a NameAndType
abbrev pub pair_fault : List ℕ → List ℕ → Option Reason
pair_fault name descriptor =
    want (spells_member_name name false || spells_member_name name true) reasons.BadName
    (want (describes_field descriptor || describes_method descriptor) reasons.BadDescriptor None)

-- of the descriptor of a field
abbrev pub field_fault : List ℕ → Option Reason
field_fault descriptor = want (describes_field descriptor) reasons.BadDescriptor None

-- of the descriptor of a method
abbrev pub shape_fault : List ℕ → Option Reason
shape_fault descriptor = want (describes_method descriptor) reasons.BadDescriptor None

-- of a method that is referred to, in an interface or not
abbrev pub method_fault : Bool → List ℕ → List ℕ → Option Reason
method_fault interface name descriptor =
    want (describes_method descriptor) reasons.BadDescriptor
    (want (spells_member_name name true && not (is_clinit_name name) && not (interface && is_init_name name)) reasons.BadName
    (want (not (is_init_name name) || no_result (method_of descriptor)) reasons.BadDescriptor None))

-- of a handle of this kind, which uses a member of this tag and name
abbrev pub fault_of_handle : ℕ → ℕ → List ℕ → Option Reason
fault_of_handle kind tag name =
    want (fits_handle kind tag) reasons.BadIndex
    (want (names_for_handle kind name) reasons.BadName None)

-- the first reason against what an entry names
unfoldable pub meaning_fault : List Slot → Slot → Option Reason
meaning_fault slots s =
    if s.tag == tags.class then class_fault (text_in slots s)
    else if s.tag == tags.name_and_type then pair_fault (name_in slots s) (descriptor_in slots s)
    else if s.tag == tags.field_ref then field_fault (descriptor_in slots (pair_in slots s))
    else if s.tag == tags.method_ref then method_fault false (name_in slots (pair_in slots s)) (descriptor_in slots (pair_in slots s))
    else if s.tag == tags.interface_method_ref then method_fault true (name_in slots (pair_in slots s)) (descriptor_in slots (pair_in slots s))
    else if s.tag == tags.method_handle then fault_of_handle (handle_kind s) (slot_of_index slots (handle_target s)).tag (name_in slots (pair_in slots (slot_of_index slots (handle_target s))))
    else if s.tag == tags.method_type then shape_fault (text_in slots s)
    else if s.tag == tags.dynamic then field_fault (descriptor_in slots (pair_in slots s))
    else if s.tag == tags.invoke_dynamic then shape_fault (descriptor_in slots (pair_in slots s))
    else None

-- each such fault stands at the entry's tag
abbrev pub stands : Slot → Option Reason → Option Fault
stands s None = None
stands s (Some reason) = Some (record { left = s.left; reason = reason })

-- an index that does not hold an entry of its kind
abbrev pub reference_fault : List Slot → Slot → Option Fault
reference_fault slots s = stands s (want (refers_rightly slots s) reasons.BadIndex None)

-- a name, descriptor or handle that is not of its form
abbrev pub sense_fault : List Slot → Slot → Option Fault
sense_fault slots s = stands s (meaning_fault slots s)

-- references are looked at over all entries first, and only then names, descriptors and handles
abbrev pub fault_of_links : List Slot → Option Fault
fault_of_links slots = or_fault (first_fault (reference_fault slots) slots) (first_fault (sense_fault slots) slots)

-- ---- the whole of it

-- the pool of these entries, if what they name has no fault
abbrev pub linked : ℕ → List Slot → List ℕ → Result (PoolOf × List ℕ) Fault
linked major slots rest = unless (fault_of_links slots) (Ok (record { major = major; slots = slots }, rest))

-- the pool in front of a class file and what comes behind it, or the first fault
unfoldable pub pool_at : List ℕ → Result (PoolOf × List ℕ) Fault
pool_at bytes = do
  start ← start_at bytes
  count ← number_at 2 start.1
  slots ← slots_at false (count.0 - 1) count.1
  linked start.0 (nothing ∷ slots.0) slots.1

-- the first fault of the bytes up to the end of the pool, at its offset
abbrev pub PoolFaulty : List ℕ → ℕ → Reason → Type 0
PoolFaulty bytes offset reason = (f : Fault) × (pool_at bytes ≡ Err f) × (offset ≡ length bytes - f.left) × (reason ≡ f.reason)
