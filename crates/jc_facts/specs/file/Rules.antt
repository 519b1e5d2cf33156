-- The rules on flags and descriptors, for valid records and for the reader alike.
--     class_flags_fit major f      of a class (JVMS 4.1)
--     field_flags_fit c f      of a field in a class with flags c (JVMS 4.5)
--     method_flags_fit major c name f      of a method (JVMS 4.6)
--     method_descriptor_fits name f descriptor      of a method of this name and these flags (JVMS 4.3.3, 4.6)
-- No other rule on flags is made; bits that the rules don't name are kept and not judged.
use Rattle.std.specs.Prelude.{ℕ, ◌+◌, Bool, true, false, not, Option, None, Some, is_some, ◌||◌, ◌&&◌, nat_le, nat_lt, if◌then◌else◌}
use Rattle.jc_desc.specs.declared.versions.TheConstants.{ABSTRACT_INTERFACE_MAJOR, INTERFACE_CODE_MAJOR}
use Rattle.jc_desc.specs.Names.{is_init_name, is_clinit_name}
use Rattle.jc_desc.specs.Reading.{field_of, method_of, slots_of_method}
use Rattle.jc_desc.specs.Pool.{no_result}
use Rattle.jc_facts.specs.Flags.{public_flag, private_flag, protected_flag, static_flag, final_flag, volatile_flag, native_flag, interface_flag, abstract_flag, module_flag}
use Rattle.jc_facts.specs.Names.{Bytes, same, object_name}

-- the name of the class that alone has no superclass
abbrev pub is_object_name : Bytes → Bool
is_object_name name = same name object_name

abbrev pub implies : Bool → Bool → Bool
implies a b = not a || b

-- not both
abbrev pub apart : Bool → Bool → Bool
apart a b = not (a && b)

abbrev pub one_access_at_most : ℕ → Bool
one_access_at_most f = apart (public_flag f) (private_flag f) && apart (public_flag f) (protected_flag f) && apart (private_flag f) (protected_flag f)

-- no module; not both final and abstract; an interface isn't final and, from major 50 on, is abstract
abbrev pub class_flags_fit : ℕ → ℕ → Bool
class_flags_fit major f =
    not (module_flag f)
    && apart (final_flag f) (abstract_flag f)
    && implies (interface_flag f) (not (final_flag f) && (abstract_flag f || nat_lt major ABSTRACT_INTERFACE_MAJOR))

-- not both final and volatile; of an interface, public, static and final
abbrev pub field_flags_fit : ℕ → ℕ → Bool
field_flags_fit c f =
    one_access_at_most f
    && apart (final_flag f) (volatile_flag f)
    && implies (interface_flag c) (public_flag f && static_flag f && final_flag f)

-- of a method other than a class initializer: what is abstract has no body, an instance initializer is plain, and a
-- method of an interface is public or private and, below major 52, public and abstract
abbrev pub plain_method_flags_fit : ℕ → ℕ → Bytes → ℕ → Bool
plain_method_flags_fit major c name f =
    one_access_at_most f
    && implies (abstract_flag f) (not (private_flag f || static_flag f || final_flag f || native_flag f))
    && implies (is_init_name name) (not (static_flag f || final_flag f || native_flag f || abstract_flag f))
    && implies (interface_flag c) ((public_flag f || private_flag f) && (nat_le INTERFACE_CODE_MAJOR major || (public_flag f && abstract_flag f)))

-- the flags of a class initializer aren't judged
abbrev pub method_flags_fit : ℕ → ℕ → Bytes → ℕ → Bool
method_flags_fit major c name f = is_clinit_name name || plain_method_flags_fit major c name f

abbrev pub field_descriptor_fits : Bytes → Bool
field_descriptor_fits descriptor = is_some (field_of descriptor)

-- so many slots of parameters, and one for the instance, are at most 255
abbrev pub slots_fit_in : Bool → Option ℕ → Bool
slots_fit_in instance None = false
slots_fit_in instance (Some n) = nat_le (n + (if instance then 1 else 0)) 255

-- a method descriptor whose parameters fit; an instance initializer returns nothing
abbrev pub method_descriptor_fits : Bytes → ℕ → Bytes → Bool
method_descriptor_fits name f descriptor =
    slots_fit_in (not (static_flag f)) (slots_of_method descriptor) && implies (is_init_name name) (no_result (method_of descriptor))

-- the descriptor and the flags of a method, or of a field, of this name, in a class of this major and with flags c
abbrev pub member_descriptor_fits : Bool → Bytes → ℕ → Bytes → Bool
member_descriptor_fits true name f descriptor = method_descriptor_fits name f descriptor
member_descriptor_fits false name f descriptor = field_descriptor_fits descriptor

abbrev pub member_flags_fit : Bool → ℕ → ℕ → Bytes → ℕ → Bool
member_flags_fit true major c name f = method_flags_fit major c name f
member_flags_fit false major c name f = field_flags_fit c f
