-- The validity of a record as four tests: all of them pass exactly where it is valid.
use Rattle.std.specs.Prelude.{Bool, count_by, ◌&&◌, nat_le}
use Rattle.std.specs.List.{list_all}
use Rattle.jc_facts.specs.declared.class_facts.ClassFacts.{ClassFacts}
use Rattle.jc_facts.specs.file.Rules.{class_flags_fit}
use Rattle.jc_facts.specs.file.Valid.{keys_differ, keys_of, is_valid_name, superclass_is_valid, field_is_valid, method_is_valid, permits_are_valid, nest_host_is_valid, nest_members_are_valid, is_valid_constant, keys_of_constants, is_valid_signature, keys_of_signatures, is_signature_of_class}

-- name, flags, superclass and interfaces
abbrev pub head_test : ClassFacts → Bool
head_test c = is_valid_name c.name && class_flags_fit c.major c.flags && superclass_is_valid c c.superclass && list_all is_valid_name c.interfaces

-- fields and methods
abbrev pub members_test : ClassFacts → Bool
members_test c =
    list_all (field_is_valid c) c.fields && keys_differ (keys_of c.fields)
    && list_all (method_is_valid c) c.methods && keys_differ (keys_of c.methods)

-- who may extend the class, and its nest
abbrev pub nest_test : ClassFacts → Bool
nest_test c = permits_are_valid c.major c.permits && nest_host_is_valid c.major c.nest_host && nest_members_are_valid c.major c.nest_members

-- constants and signatures
abbrev pub texts_test : ClassFacts → Bool
texts_test c =
    list_all (is_valid_constant c) c.constants && keys_differ (keys_of_constants c.constants)
    && list_all (is_valid_signature c) c.signatures && keys_differ (keys_of_signatures c.signatures) && nat_le (count_by is_signature_of_class c.signatures) 1
