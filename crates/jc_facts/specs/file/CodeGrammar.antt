-- The contents of a Code and of a BootstrapMethods (JVMS 4.7.3, 4.7.23): which bytes stand for which parts.
use Rattle.std.specs.Prelude.{◌≡◌, ℕ, ◌*◌, List, [], ◌++◌, length, Some, slice_get}
use Rattle.jc_facts.specs.Names.{Bytes}
use Rattle.jc_facts.specs.file.Attributes.{CodeOf, BootstrapOf}
use Rattle.jc_facts.specs.file.ClassGrammar.{IsNumberAt, AreCounted}

-- an attribute of whatever name: the index of its name, its length, and so many bytes
pub record IsSkippedAt (bytes : Bytes) (body : Bytes) (rest : Bytes) : Type 0 where
  pub index : ℕ
  pub after_index : Bytes
  pub after_length : Bytes
  pub index_is : IsNumberAt 2 bytes index after_index
  pub length_is : IsNumberAt 4 after_index (length body) after_length
  pub whole : after_length ≡ body ++ rest

-- max_stack, max_locals, the code's length and the code, the number of exception handlers and eight bytes for each, and attributes
pub record IsCode (contents : Bytes) (c : CodeOf) : Type 0 where
  pub stack : ℕ
  pub locals : ℕ
  pub handlers : ℕ
  pub attributes : List Bytes
  pub after_stack : Bytes
  pub after_locals : Bytes
  pub after_length : Bytes
  pub after_code : Bytes
  pub after_count : Bytes
  pub after_catches : Bytes
  pub start_is : c.start ≡ 8
  pub stack_is : IsNumberAt 2 contents stack after_stack
  pub locals_is : IsNumberAt 2 after_stack locals after_locals
  pub length_is : IsNumberAt 4 after_locals (length c.bytes) after_length
  pub code_is : after_length ≡ c.bytes ++ after_code
  pub count_is : IsNumberAt 2 after_code handlers after_count
  pub catches_are : after_count ≡ c.catches ++ after_catches
  pub handlers_are : length c.catches ≡ 8 * handlers
  pub attributes_are : AreCounted IsSkippedAt after_catches attributes []

-- the index of a method handle, the number of arguments, and two bytes for each
pub record IsBootstrapAt (bytes : Bytes) (b : BootstrapOf) (rest : Bytes) : Type 0 where
  pub number : ℕ
  pub after_handle : Bytes
  pub after_count : Bytes
  pub handle_is : IsNumberAt 2 bytes b.handle after_handle
  pub count_is : IsNumberAt 2 after_handle number after_count
  pub arguments_are : after_count ≡ b.arguments ++ rest
  pub length_is : length b.arguments ≡ 2 * number

-- the contents of a BootstrapMethods whose entry of this number is b
pub record IsBootstrap (number : ℕ) (contents : Bytes) (b : BootstrapOf) : Type 0 where
  pub entries : List BootstrapOf
  pub entries_are : AreCounted IsBootstrapAt contents entries []
  pub is_entry : slice_get entries number ≡ Some b
