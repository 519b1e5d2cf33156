-- The constant pool of a class file (JVMS 4.4): what its indices hold, what the indices in an
-- entry lead to, and what is asked of an entry.
use Rattle.std.specs.Prelude.{ℕ, ◌+◌, List, [], ◌∷◌, length, drop, get_or, Option, Some, None, Bool, true, false, ◌==◌, ◌||◌, ◌&&◌, not, nat_lt, is_some, if◌then◌else◌}
use Rattle.byteorder.specs.Endian.{big_number}
use Rattle.jc_desc.specs.declared.versions.TheConstants.{OLDEST_MAJOR, NEWEST_MAJOR, STRICT_MINOR_MAJOR}
use Rattle.jc_desc.specs.Names.{spells_class_name, spells_member_name, is_init_name, is_clinit_name}
use Rattle.jc_desc.specs.Reading.{field_of, method_of}
use Rattle.jc_desc.specs.Tags as tags
use Rattle.jc_desc.specs.Types.{Method}

-- What an index holds: the tag of an entry and the bytes behind the tag, of a Utf8 its text alone.
-- Tag 0 holds nothing. `left` says how many bytes of the file are left at the tag, itself counted.
pub record Slot : Type 0 where
  pub tag : ℕ
  pub body : List ℕ
  pub left : ℕ

-- the major version of the file, and what each index from 0 on holds
pub record PoolOf : Type 0 where
  pub major : ℕ
  pub slots : List Slot

-- index 0, and the second index of a Long or a Double
abbrev pub nothing : Slot
nothing = record { tag = 0; body = []; left = 0 }

-- a major from 45 to 65; from 56 on the minor is 0 or 65535 (JVMS 4.1, table 4.1-A)
abbrev pub is_known_version : ℕ → ℕ → Bool
is_known_version minor major = not (nat_lt major OLDEST_MAJOR) && not (nat_lt NEWEST_MAJOR major) && (nat_lt major STRICT_MINOR_MAJOR || minor == 0 || minor == 65535)

-- how many bytes follow the tag of an entry that isn't a Utf8
abbrev pub body_length : ℕ → Option ℕ
body_length tag =
    if tag == tags.integer || tag == tags.float then Some 4
    else if tag == tags.long || tag == tags.double then Some 8
    else if tag == tags.class || tag == tags.string || tag == tags.method_type || tag == tags.module_name || tag == tags.package_name then Some 2
    else if tag == tags.field_ref || tag == tags.method_ref || tag == tags.interface_method_ref || tag == tags.name_and_type || tag == tags.dynamic || tag == tags.invoke_dynamic then Some 4
    else if tag == tags.method_handle then Some 3
    else None

-- a Long or a Double, which takes two indices (JVMS 4.4.5)
abbrev pub is_wide_tag : ℕ → Bool
is_wide_tag tag = tag == tags.long || tag == tags.double

-- ---- what the indices in an entry lead to

-- the number in the two bytes of a body from place i on; 0 where they aren't there
abbrev pub short_from : ℕ → List ℕ → ℕ
short_from i body = if nat_lt (length body) (i + 2) then 0 else big_number 2 (drop i body)

-- the first index of an entry
abbrev pub first_of : Slot → ℕ
first_of s = short_from 0 s.body

-- the second index of an entry
abbrev pub second_of : Slot → ℕ
second_of s = short_from 2 s.body

-- what an index holds
abbrev pub slot_of_index : List Slot → ℕ → Slot
slot_of_index slots i = get_or slots i nothing

-- an index holds an entry of this tag
abbrev pub holds_tag : List Slot → ℕ → ℕ → Bool
holds_tag slots tag i = (slot_of_index slots i).tag == tag

-- the text that a Class, String, MethodType, Module or Package names
abbrev pub text_in : List Slot → Slot → List ℕ
text_in slots s = (slot_of_index slots (first_of s)).body

-- the name of a NameAndType
abbrev pub name_in : List Slot → Slot → List ℕ
name_in slots s = (slot_of_index slots (first_of s)).body

-- the descriptor of a NameAndType
abbrev pub descriptor_in : List Slot → Slot → List ℕ
descriptor_in slots s = (slot_of_index slots (second_of s)).body

-- the NameAndType of a reference to a member, a Dynamic or an InvokeDynamic
abbrev pub pair_in : List Slot → Slot → Slot
pair_in slots s = slot_of_index slots (second_of s)

-- the kind of a MethodHandle
abbrev pub handle_kind : Slot → ℕ
handle_kind s = get_or s.body 0 0

-- the index of the member that a MethodHandle uses
abbrev pub handle_target : Slot → ℕ
handle_target s = short_from 1 s.body

-- ---- what is asked of an entry's indices

-- the entries whose one index is that of a Utf8
abbrev pub names_one_utf8 : ℕ → Bool
names_one_utf8 tag = tag == tags.class || tag == tags.string || tag == tags.method_type || tag == tags.module_name || tag == tags.package_name

-- a Fieldref, Methodref or InterfaceMethodref
abbrev pub is_member_reference : ℕ → Bool
is_member_reference tag = tag == tags.field_ref || tag == tags.method_ref || tag == tags.interface_method_ref

-- each index holds an entry of the kind that JVMS 4.4.1 to 4.4.12 name for it
unfoldable pub refers_rightly : List Slot → Slot → Bool
refers_rightly slots s =
    if names_one_utf8 s.tag then holds_tag slots tags.utf8 (first_of s)
    else if is_member_reference s.tag then holds_tag slots tags.class (first_of s) && holds_tag slots tags.name_and_type (second_of s)
    else if s.tag == tags.name_and_type then holds_tag slots tags.utf8 (first_of s) && holds_tag slots tags.utf8 (second_of s)
    else if s.tag == tags.dynamic || s.tag == tags.invoke_dynamic then holds_tag slots tags.name_and_type (second_of s)
    else true

-- ---- what is asked of names, descriptors and handles

-- the descriptor of a field
abbrev pub describes_field : List ℕ → Bool
describes_field bytes = is_some (field_of bytes)

-- the descriptor of a method
abbrev pub describes_method : List ℕ → Bool
describes_method bytes = is_some (method_of bytes)

-- the descriptor of an array
abbrev pub names_array : List ℕ → Bool
names_array [] = false
names_array (b ∷ bs) = b == 91 && describes_field (b ∷ bs)

-- the type of a method whose result is void
abbrev pub no_result : Option Method → Bool
no_result None = false
no_result (Some m) = not (is_some m.result)

-- the name of a Class: of a class, or an array descriptor (JVMS 4.4.1)
abbrev pub names_class : List ℕ → Bool
names_class text = spells_class_name text || names_array text

-- name and descriptor of a NameAndType, of a field or a method (JVMS 4.4.6)
abbrev pub names_any_member : List ℕ → List ℕ → Bool
names_any_member name descriptor = (spells_member_name name false || spells_member_name name true) && (describes_field descriptor || describes_method descriptor)

-- name and descriptor of a method that is referred to, in an interface or not (JVMS 4.4.2): no
-- class initializer, a constructor only of a class, and one that returns nothing
abbrev pub names_used_method : Bool → List ℕ → List ℕ → Bool
names_used_method interface name descriptor =
    describes_method descriptor && spells_member_name name true && not (is_clinit_name name)
    && (not (is_init_name name) || (not interface && no_result (method_of descriptor)))

-- the kinds of references that a handle of a kind may use: fields by kinds 1 to 4, methods by 5 to
-- 9 (JVMS 4.4.8)
abbrev pub fits_handle : ℕ → ℕ → Bool
fits_handle kind tag =
    if kind == 1 || kind == 2 || kind == 3 || kind == 4 then tag == tags.field_ref
    else if kind == 5 || kind == 8 then tag == tags.method_ref
    else if kind == 6 || kind == 7 then tag == tags.method_ref || tag == tags.interface_method_ref
    else if kind == 9 then tag == tags.interface_method_ref
    else false

-- kind 8 makes an object by a constructor, and no other kind calls one (JVMS 4.4.8)
abbrev pub names_for_handle : ℕ → List ℕ → Bool
names_for_handle kind name =
    if kind == 8 then is_init_name name
    else if kind == 5 || kind == 6 || kind == 7 || kind == 9 then not (is_init_name name)
    else true

-- what an entry names has the form that JVMS 4.4.1 to 4.4.10 ask for
unfoldable pub is_meaningful : List Slot → Slot → Bool
is_meaningful slots s =
    if s.tag == tags.class then names_class (text_in slots s)
    else if s.tag == tags.name_and_type then names_any_member (name_in slots s) (descriptor_in slots s)
    else if s.tag == tags.field_ref then describes_field (descriptor_in slots (pair_in slots s))
    else if s.tag == tags.method_ref then names_used_method false (name_in slots (pair_in slots s)) (descriptor_in slots (pair_in slots s))
    else if s.tag == tags.interface_method_ref then names_used_method true (name_in slots (pair_in slots s)) (descriptor_in slots (pair_in slots s))
    else if s.tag == tags.method_handle then fits_handle (handle_kind s) (slot_of_index slots (handle_target s)).tag && names_for_handle (handle_kind s) (name_in slots (pair_in slots (slot_of_index slots (handle_target s))))
    else if s.tag == tags.method_type then describes_method (text_in slots s)
    else if s.tag == tags.dynamic then describes_field (descriptor_in slots (pair_in slots s))
    else if s.tag == tags.invoke_dynamic then describes_method (descriptor_in slots (pair_in slots s))
    else true
