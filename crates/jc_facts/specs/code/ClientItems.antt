-- The items of a client class file, which its methods' code gives, and its first refusal (JVMS 4.6, 4.7.3, 4.7.23).
--     items bytes      the items of the methods in order, or the first refusal
--     IsBadCode bytes offset reason      the first refusal
use Rattle.std.specs.Prelude.{◌≡◌, ℕ, zero, suc, ◌+◌, ◌-◌, ◌/◌, List, [], ◌++◌, length, Option, Some, None, Result, Ok, Err, Bool, false, ◌||◌, ◌&&◌, nat_le, codes, true, if◌then◌else◌}
use Rattle.jc_desc.specs.declared.limits.TheConstants.{MAX_CODE}
use Rattle.jc_desc.specs.declared.versions.TheConstants.{BOOTSTRAP_MAJOR}
use Rattle.jc_desc.specs.Pool.{PoolOf}
use Rattle.jc_desc.specs.PoolAnswers.{some_if}
use Rattle.jc_desc.specs.PoolSteps.{pool_at}
use Rattle.jc_desc.specs.Faults.{number_at}
use Rattle.jc_facts.specs.declared.class_facts.Member.{Member}
use Rattle.jc_facts.specs.declared.client.Item.{Item}
use Rattle.jc_facts.specs.declared.code_fault.CodeFault.{CodeFault}
use Rattle.jc_facts.specs.declared.code_fault.CodeReason.{CodeReason}
use Rattle.jc_facts.specs.declared.code_fault.CodeReason.TheVariants as reasons
use Rattle.jc_facts.specs.file.Attributes.{CodeOf, BootstrapOf, ◌|>>◌, behind, counted_at, code_of, bootstraps_of}
use Rattle.jc_facts.specs.file.ClassParts.{ClassHead, Attribute}
use Rattle.jc_facts.specs.file.ClassSteps.{head_from, attribute_from, counted_attributes_at, has_this_name, member_head_from}
use Rattle.jc_facts.specs.file.ClassRests.{skipped_interfaces_at, skipped_member_from}
use Rattle.jc_facts.specs.code.Code.{Around, scan_at, catches_at}
use Rattle.jc_facts.specs.code.Lengths.{is_between}
use Rattle.jc_facts.specs.Names.{Bytes}
use Rattle.jc_facts.specs.Options.{or_else}
use Rattle.jc_facts.specs.file.Refusals.{◌>>=◌, read, want}
use Rattle.jc_facts.specs.code.Typing.{typed_code}

-- ---- one method

-- the parts of a Code, where it is of its form and its code is neither empty nor longer than MAX_CODE bytes (JVMS 4.9.1)
unfoldable pub layout_of : Bytes → Option CodeOf
layout_of body = code_of body |>> λ c. some_if (is_between 1 MAX_CODE (length c.bytes)) c

-- the items of code that isn't refused: those of typing alone where the method is straight, else those of the scan alone
abbrev pub of_code : Option (List Item) → List Item → List Item
of_code None scanned = scanned
of_code (Some typed) scanned = typed

-- the items of a Code, at whose first instruction so many bytes of the file are left
unfoldable pub items_of_code : Around → ℕ → CodeOf → Result (List Item) CodeFault
items_of_code a left c = do
  scanned ← scan_at a left (length c.bytes) 0 c.bytes
  caught ← catches_at a.pool (left - (length c.bytes + 2)) (length c.catches / 8) c.catches
  Ok (of_code (typed_code a c) (scanned ++ caught))

-- those of a Code, at which so many bytes are left; where one came before, it is refused
unfoldable pub code_items : Around → Bool → ℕ → Bytes → Result (List Item) CodeFault
code_items a before left body = do
  c ← want (if before then None else layout_of body) left reasons.BadLayout
  items_of_code a (left - (6 + c.start)) c

-- those of an attribute of a method
unfoldable pub attribute_items : Around → Bool → ℕ → Attribute → Result (List Item) CodeFault
attribute_items a before left attribute = if has_this_name attribute (codes "Code") then code_items a before left attribute.body else Ok []

-- those of n attributes of a method, where a Code came before them or not
unfoldable pub attributes_items : Around → Bool → ℕ → Bytes → Result (List Item × Bytes) CodeFault
attributes_items a before zero bytes = Ok ([], bytes)
attributes_items a before (suc n) bytes = do
  one ← read (attribute_from a.pool bytes)
  items ← attribute_items a before (length bytes) one.0
  others ← attributes_items a (before || has_this_name one.0 (codes "Code")) n one.1
  Ok (items ++ others.0, others.1)

-- ---- all methods

-- a method of the class
abbrev pub around : PoolOf → ClassHead → Option (List BootstrapOf) → Member → Around
around pool head boots m = record { pool = pool; class = head.name; superclass = head.superclass; boots = boots; name = m.name; descriptor = m.descriptor; flags = m.flags }

-- the items of the method in front of the bytes, and what comes behind it
unfoldable pub method_items : PoolOf → ClassHead → Option (List BootstrapOf) → Bytes → Result (List Item × Bytes) CodeFault
method_items pool head boots bytes = do
  m ← read (member_head_from true pool head.flags bytes)
  n ← read (number_at 2 m.1)
  attributes_items (around pool head boots m.0) false n.0 n.1

-- those of n methods
unfoldable pub methods_items : PoolOf → ClassHead → Option (List BootstrapOf) → ℕ → Bytes → Result (List Item × Bytes) CodeFault
methods_items pool head boots zero bytes = Ok ([], bytes)
methods_items pool head boots (suc n) bytes = do
  one ← method_items pool head boots bytes
  others ← methods_items pool head boots n one.1
  Ok (one.0 ++ others.0, others.1)

-- ---- the bootstrap rows of the class

-- the contents of the first BootstrapMethods, which is read from major 51 on; a later one doesn't count
unfoldable pub take_boots : PoolOf → Option Bytes → Attribute → Option (Option Bytes)
take_boots pool found a = Some (if nat_le BOOTSTRAP_MAJOR pool.major && has_this_name a (codes "BootstrapMethods") then or_else found (Some a.body) else found)

-- its rows; None where it isn't there or isn't of its form
unfoldable pub boots_of : Option Bytes → Option (List BootstrapOf)
boots_of body = body |>> bootstraps_of

-- ---- the whole file

-- the items of a class file. Bytes that are none are refused too, at the place where reading them meets a fault
unfoldable pub items : Bytes → Result (List Item) CodeFault
items bytes = do
  pool ← read (pool_at bytes)
  head ← read (head_from pool.0 pool.1)
  interfaces ← read (skipped_interfaces_at head.1)
  methods ← read (behind (counted_at skipped_member_from interfaces))
  attributes ← read (behind (counted_at skipped_member_from methods))
  boots ← read (counted_attributes_at (take_boots pool.0) pool.0 None attributes)
  n ← read (number_at 2 methods)
  all ← methods_items pool.0 head.0 (boots_of boots.0) n.0 n.1
  Ok all.0

-- the first refusal of the bytes, at its offset
abbrev pub IsBadCode : Bytes → ℕ → CodeReason → Type 0
IsBadCode bytes offset reason = (f : CodeFault) × (items bytes ≡ Err f) × (offset ≡ length bytes - f.left) × (reason ≡ f.reason)
