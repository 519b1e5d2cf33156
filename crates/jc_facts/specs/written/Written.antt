-- Class files that are written (JVMS 4.1): the pool in the order of need, and the bytes.
--     pool_of_plan b      the pool of a blueprint
--     written b      its class file
--     IsFormed b      what is asked of a blueprint, but that its bodies type
--     fits_whole b      no limit of the format is passed
use Rattle.std.specs.Prelude.{◌≡◌, ℕ, ◌+◌, List, [], ◌∷◌, ◌++◌, length, Option, Some, None, Bool, true, ◌&&◌, nat_le, nat_lt, codes, IsTrue, if◌then◌else◌}
use Rattle.std.specs.List.{list_all}
use Rattle.jc_desc.specs.Pool.{is_known_version}
use Rattle.jc_desc.specs.Reading.{slots_of_method}
use Rattle.jc_facts.specs.declared.class_facts.ClassFacts.{ClassFacts}
use Rattle.jc_facts.specs.declared.class_facts.Member.{Member}
use Rattle.jc_facts.specs.declared.blueprint.Blueprint.{Blueprint}
use Rattle.jc_facts.specs.declared.blueprint.Body.{Body}
use Rattle.jc_facts.specs.Flags.{static_flag}
use Rattle.jc_facts.specs.Names.{Bytes}
use Rattle.jc_facts.specs.file.Valid.{IsValidClass}
use Rattle.jc_facts.specs.file.ClassParts.{Attribute}
use Rattle.jc_facts.specs.written.PoolEntries.{two, four, counted, PoolEntry, text, class, index_of, collected, all_parts, entries_bytes, is_good, fits}
use Rattle.jc_facts.specs.written.Bodies.{steps_needs, steps_bytes, places_at_most, slots_or_none}

-- ---- what the pool holds

-- the names of the attributes that are written
abbrev pub code_name : Bytes
code_name = codes "Code"

abbrev pub permits_name : Bytes
permits_name = codes "PermittedSubclasses"

abbrev pub host_name : Bytes
host_name = codes "NestHost"

abbrev pub members_name : Bytes
members_name = codes "NestMembers"

abbrev pub classes_needs : List Bytes → List PoolEntry
classes_needs [] = []
classes_needs (c ∷ cs) = class c ∷ classes_needs cs

abbrev pub superclass_needs : Option Bytes → List PoolEntry
superclass_needs None = []
superclass_needs (Some c) = class c ∷ []

-- a field or a method, but for the body
abbrev pub member_needs : Member → List PoolEntry
member_needs m = text m.name ∷ text m.descriptor ∷ []

abbrev pub fields_needs : List Member → List PoolEntry
fields_needs [] = []
fields_needs (m ∷ ms) = member_needs m ++ fields_needs ms

-- a body has the name of its attribute before its instructions
abbrev pub body_needs : Option Body → List PoolEntry
body_needs None = []
body_needs (Some body) = text code_name ∷ steps_needs body.steps

-- the first body of a list, and the others; where there are none, no method has one
abbrev pub body_first : List (Option Body) → Option Body
body_first [] = None
body_first (b ∷ bs) = b

abbrev pub bodies_other : List (Option Body) → List (Option Body)
bodies_other [] = []
bodies_other (b ∷ bs) = bs

abbrev pub methods_needs : List Member → List (Option Body) → List PoolEntry
methods_needs [] bodies = []
methods_needs (m ∷ ms) bodies = member_needs m ++ (body_needs (body_first bodies) ++ methods_needs ms (bodies_other bodies))

-- PermittedSubclasses is there where a class has permitted names, be there none of them
abbrev pub permits_needs : Option (List Bytes) → List PoolEntry
permits_needs None = []
permits_needs (Some cs) = text permits_name ∷ classes_needs cs

abbrev pub host_needs : Option Bytes → List PoolEntry
host_needs None = []
host_needs (Some c) = text host_name ∷ class c ∷ []

-- NestMembers is there where there are some
abbrev pub nest_needs : List Bytes → List PoolEntry
nest_needs [] = []
nest_needs (c ∷ cs) = text members_name ∷ class c ∷ classes_needs cs

-- the entries in the order of need: this class, the superclass, the interfaces, the fields, the methods with their bodies, and the
-- attributes of the class
abbrev pub needs_of : Blueprint → List PoolEntry
needs_of b =
    class b.facts.name ∷ (superclass_needs b.facts.superclass ++ (classes_needs b.facts.interfaces
    ++ (fields_needs b.facts.fields ++ (methods_needs b.facts.methods b.bodies
    ++ (permits_needs b.facts.permits ++ (host_needs b.facts.nest_host ++ nest_needs b.facts.nest_members))))))

-- an entry where it is first needed, its parts before it, none twice
unfoldable pub pool_of_plan : Blueprint → List PoolEntry
pool_of_plan b = collected [] (all_parts (needs_of b))

-- ---- the bytes behind the pool

-- the index of the Class of this name, and of the Utf8 of this text
abbrev pub class_index : List PoolEntry → Bytes → Bytes
class_index pool c = two (index_of pool (class c))

abbrev pub text_index : List PoolEntry → Bytes → Bytes
text_index pool t = two (index_of pool (text t))

-- java/lang/Object has 0 (JVMS 4.1, super_class)
abbrev pub superclass_index : List PoolEntry → Option Bytes → Bytes
superclass_index pool None = two 0
superclass_index pool (Some c) = class_index pool c

-- attribute_info: the index of the name, the length of the contents, and the contents (JVMS 4.7)
abbrev pub attribute_bytes : List PoolEntry → Attribute → Bytes
attribute_bytes pool a = text_index pool a.name ++ four (length a.body) ++ a.body

-- flags, name and descriptor (JVMS 4.5, 4.6)
abbrev pub member_head : List PoolEntry → Member → Bytes
member_head pool m = two m.flags ++ text_index pool m.name ++ text_index pool m.descriptor

-- a field has no attributes
abbrev pub field_bytes : List PoolEntry → Member → Bytes
field_bytes pool m = member_head pool m ++ two 0

-- max_locals: the places of the parameters, and of the object of an instance method (JVMS 2.6.1)
abbrev pub places_of_locals : Member → ℕ
places_of_locals m = slots_or_none (slots_of_method m.descriptor) + (if static_flag m.flags then 0 else 1)

-- the contents of a Code: max_stack, max_locals, the code, no exception table and no attributes (JVMS 4.7.3)
abbrev pub body_of_code : List PoolEntry → Member → Body → Bytes
body_of_code pool m body =
    two (places_at_most body.steps) ++ two (places_of_locals m) ++ four (length (steps_bytes pool body.steps)) ++ steps_bytes pool body.steps ++ two 0 ++ two 0

-- a method has a Code, where it has a body
abbrev pub method_attributes : List PoolEntry → Member → Option Body → List Attribute
method_attributes pool m None = []
method_attributes pool m (Some body) = record { name = code_name; body = body_of_code pool m body } ∷ []

abbrev pub method_bytes : List PoolEntry → Member → Option Body → Bytes
method_bytes pool m body = member_head pool m ++ counted (attribute_bytes pool) (method_attributes pool m body)

-- each method with its body
abbrev pub methods_bytes : List PoolEntry → List Member → List (Option Body) → Bytes
methods_bytes pool [] bodies = []
methods_bytes pool (m ∷ ms) bodies = method_bytes pool m (body_first bodies) ++ methods_bytes pool ms (bodies_other bodies)

-- ---- the attributes of the class

-- JVMS 4.7.31
abbrev pub permits_attribute : List PoolEntry → Option (List Bytes) → List Attribute
permits_attribute pool None = []
permits_attribute pool (Some cs) = record { name = permits_name; body = counted (class_index pool) cs } ∷ []

-- JVMS 4.7.28
abbrev pub host_attribute : List PoolEntry → Option Bytes → List Attribute
host_attribute pool None = []
host_attribute pool (Some c) = record { name = host_name; body = class_index pool c } ∷ []

-- JVMS 4.7.29
abbrev pub nest_attribute : List PoolEntry → List Bytes → List Attribute
nest_attribute pool [] = []
nest_attribute pool (c ∷ cs) = record { name = members_name; body = counted (class_index pool) (c ∷ cs) } ∷ []

-- those that are there, in this order
abbrev pub class_attributes : List PoolEntry → ClassFacts → List Attribute
class_attributes pool c = permits_attribute pool c.permits ++ (host_attribute pool c.nest_host ++ nest_attribute pool c.nest_members)

-- ---- the file

-- access_flags, this_class, super_class, interfaces, fields, methods, attributes
abbrev pub behind_pool : List PoolEntry → Blueprint → Bytes
behind_pool pool b =
    two b.facts.flags ++ (class_index pool b.facts.name ++ (superclass_index pool b.facts.superclass
    ++ (counted (class_index pool) b.facts.interfaces ++ (counted (field_bytes pool) b.facts.fields
    ++ ((two (length b.facts.methods) ++ methods_bytes pool b.facts.methods b.bodies)
    ++ counted (attribute_bytes pool) (class_attributes pool b.facts))))))

-- magic, minor_version 0, major_version, constant_pool_count, which is one more than there are entries, the pool, and what is behind it
abbrev pub file_bytes : List PoolEntry → Blueprint → Bytes
file_bytes pool b =
    four 0xcafe_babe ++ (two 0 ++ (two b.facts.major ++ (two (length pool + 1) ++ (entries_bytes pool ++ behind_pool pool b))))

unfoldable pub written : Blueprint → Bytes
written b = file_bytes (pool_of_plan b) b

-- ---- what is asked of a blueprint

-- the names and descriptors in a body meet what is asked of their pool entries
abbrev pub body_is_good : Option Body → Bool
body_is_good None = true
body_is_good (Some body) = list_all is_good (steps_needs body.steps)

-- flags are numbers of two bytes
abbrev pub are_short : List Member → Bool
are_short ms = list_all (λ (m : Member). nat_lt m.flags 65536) ms

-- the record is valid and has no constants and no signatures, its version is one that is read, each method has a body or none, and what
-- the bodies name is good
pub record IsFormed (b : Blueprint) : Type 0 where
  pub valid : IsValidClass b.facts
  pub one_each : length b.bodies ≡ length b.facts.methods
  pub known : IsTrue (is_known_version 0 b.facts.major)
  pub no_constants : b.facts.constants ≡ []
  pub no_signatures : b.facts.signatures ≡ []
  pub bodies : IsTrue (list_all body_is_good b.bodies)

-- all flags are numbers of two bytes, as those of each value of the program are
pub record HasShortFlags (c : ClassFacts) : Type 0 where
  pub own : IsTrue (nat_lt c.flags 65536)
  pub fields : IsTrue (are_short c.fields)
  pub methods : IsTrue (are_short c.methods)

-- ---- the limits of the format (JVMS 4.11, 4.7.3)

abbrev pub fits_count : ℕ → Bool
fits_count n = nat_le n 65535

abbrev pub fits_permits : Option (List Bytes) → Bool
fits_permits None = true
fits_permits (Some cs) = fits_count (length cs)

abbrev pub fits_body : List PoolEntry → Option Body → Bool
fits_body pool None = true
fits_body pool (Some body) = fits_count (length (steps_bytes pool body.steps)) && fits_count (places_at_most body.steps)

abbrev pub fits_bodies : List PoolEntry → List (Option Body) → Bool
fits_bodies pool [] = true
fits_bodies pool (b ∷ bs) = fits_body pool b && fits_bodies pool bs

abbrev pub fits_counts : ClassFacts → Bool
fits_counts c =
    fits_count (length c.interfaces) && fits_count (length c.fields) && fits_count (length c.methods)
    && fits_permits c.permits && fits_count (length c.nest_members)

-- of the pool, the counts, the texts, the codes and the stacks
unfoldable pub fits_whole : Blueprint → Bool
fits_whole b =
    nat_le (length (pool_of_plan b)) 65534 && list_all fits (pool_of_plan b) && fits_counts b.facts && fits_bodies (pool_of_plan b) b.bodies
