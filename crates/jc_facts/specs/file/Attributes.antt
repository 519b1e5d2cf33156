-- The contents of the attributes that are read (JVMS 4.7.2, 4.7.3, 4.7.9, 4.7.23, 4.7.28, 4.7.29, 4.7.31).
-- Each answers None exactly where the contents don't have the form, or go on behind it.
--     class_list_of pool body      the names in a PermittedSubclasses or a NestMembers
--     nest_host_of pool body      the name in a NestHost
--     signature_of pool body      the text in a Signature
--     constant_value_of pool body      the value in a ConstantValue
--     code_of body      the parts of a Code
--     bootstrap_of body number      the entry of this number in a BootstrapMethods
use Rattle.std.specs.Prelude.{ℕ, zero, suc, ◌*◌, List, [], ◌∷◌, length, Option, Some, None, Result, Ok, Err, Bool, false, ◌==◌, not, slice_get}
use Rattle.jc_desc.specs.declared.fault.Fault.{Fault}
use Rattle.jc_desc.specs.declared.fault.Reason.{Reason}
use Rattle.jc_desc.specs.declared.fault.Reason.TheVariants as reasons
use Rattle.jc_desc.specs.Faults.{◌>>=◌, fault, number_at, part_at, check}
use Rattle.jc_desc.specs.Pool.{PoolOf}
use Rattle.jc_desc.specs.PoolAnswers.{class_in, utf8_in, constant_in, ConstantOf, int, float, long, double, text}
use Rattle.jc_facts.specs.declared.class_facts.Constant.{Constant}
use Rattle.jc_facts.specs.declared.class_facts.Constant.TheVariants as constants
use Rattle.jc_facts.specs.Names.{Bytes}

-- the value of an option, or a fault
abbrev pub need : {A : Type 0} → Option A → ℕ → Reason → Result A Fault
need None left reason = fault left reason
need (Some x) left reason = Ok x

-- ---- lists of classes, here and of interfaces

abbrev pub is_array_name : Bytes → Bool
is_array_name [] = false
is_array_name (b ∷ bs) = b == 91

-- the class of an index (JVMS 4.4.1); an array is a bad name
abbrev pub plain_class_at : PoolOf → ℕ → ℕ → Result Bytes Fault
plain_class_at pool left i = do
  name ← need (class_in pool i) left reasons.BadIndex
  check (not (is_array_name name)) left reasons.BadName (Ok name)

-- an index of two bytes, and its class
unfoldable pub class_from : PoolOf → Bytes → Result (Bytes × Bytes) Fault
class_from pool bytes = do
  i ← number_at 2 bytes
  name ← plain_class_at pool (length bytes) i.0
  Ok (name, i.1)

-- n items, one after the other
unfoldable pub list_at : {A : Type 0} → (Bytes → Result (A × Bytes) Fault) → ℕ → Bytes → Result (List A × Bytes) Fault
list_at item zero bytes = Ok ([], bytes)
list_at item (suc n) bytes = do
  one ← item bytes
  others ← list_at item n one.1
  Ok (one.0 ∷ others.0, others.1)

-- a count of two bytes, and that many items
unfoldable pub counted_at : {A : Type 0} → (Bytes → Result (A × Bytes) Fault) → Bytes → Result (List A × Bytes) Fault
counted_at item bytes = do
  n ← number_at 2 bytes
  list_at item n.0 n.1

-- ---- contents, which must be read whole

infixl 10 ◌|>>◌
abbrev pub ◌|>>◌ : {A B : Type 0} → Option A → (A → Option B) → Option B
None |>> f = None
(Some x) |>> f = f x

-- what is read without a fault, where nothing is left
abbrev pub whole : {A : Type 0} → Result (A × Bytes) Fault → Option A
whole (Err f) = None
whole (Ok (x, [])) = Some x
whole (Ok (x, b ∷ bs)) = None

unfoldable pub class_list_of : PoolOf → Bytes → Option (List Bytes)
class_list_of pool body = whole (counted_at (class_from pool) body)

unfoldable pub nest_host_of : PoolOf → Bytes → Option Bytes
nest_host_of pool body = whole (class_from pool body)

-- an index of two bytes, alone
abbrev pub lone_index : Bytes → Option ℕ
lone_index body = whole (number_at 2 body)

unfoldable pub signature_of : PoolOf → Bytes → Option Bytes
signature_of pool body = lone_index body |>> utf8_in pool

abbrev pub constant_from : ConstantOf → Constant
constant_from (int n) = constants.Int n
constant_from (float n) = constants.Float n
constant_from (long n) = constants.Long n
constant_from (double n) = constants.Double n
constant_from (text t) = constants.Text t

unfoldable pub constant_value_of : PoolOf → Bytes → Option Constant
constant_value_of pool body = (lone_index body |>> constant_in pool) |>> λ c. Some (constant_from c)

-- ---- Code

-- where the code begins in the contents, the code, and the entries of the exception table
pub record CodeOf : Type 0 where
  pub start : ℕ
  pub bytes : Bytes
  pub catches : Bytes

-- an attribute of whatever name: its contents
unfoldable pub skipped_from : Bytes → Result (Bytes × Bytes) Fault
skipped_from bytes = do
  name ← number_at 2 bytes
  len ← number_at 4 name.1
  part_at len.0 len.1

-- what comes behind that which is read
abbrev pub behind : {A : Type 0} → Result (A × Bytes) Fault → Result Bytes Fault
behind (Err f) = Err f
behind (Ok x) = Ok x.1

-- max_stack, max_locals, the code, the exception table, and attributes, which are skipped
unfoldable pub code_from : Bytes → Result (CodeOf × Bytes) Fault
code_from body = do
  stack ← number_at 2 body
  locals ← number_at 2 stack.1
  size ← number_at 4 locals.1
  code ← part_at size.0 size.1
  count ← number_at 2 code.1
  catches ← part_at (8 * count.0) count.1
  rest ← behind (counted_at skipped_from catches.1)
  Ok (record { start = 8; bytes = code.0; catches = catches.0 }, rest)

unfoldable pub code_of : Bytes → Option CodeOf
code_of body = whole (code_from body)

-- ---- BootstrapMethods

-- the index of the method handle, and the indices of the arguments, two bytes each
pub record BootstrapOf : Type 0 where
  pub handle : ℕ
  pub arguments : Bytes

unfoldable pub bootstrap_from : Bytes → Result (BootstrapOf × Bytes) Fault
bootstrap_from bytes = do
  handle ← number_at 2 bytes
  count ← number_at 2 handle.1
  arguments ← part_at (2 * count.0) count.1
  Ok (record { handle = handle.0; arguments = arguments.0 }, arguments.1)

unfoldable pub bootstraps_of : Bytes → Option (List BootstrapOf)
bootstraps_of body = whole (counted_at bootstrap_from body)

unfoldable pub bootstrap_of : Bytes → ℕ → Option BootstrapOf
bootstrap_of body number = bootstraps_of body |>> λ entries. slice_get entries number
