-- Steps that are refused: the first refusal in file order. It says how many bytes of the file are left from it on, so that no step
-- knows its own offset.
use Rattle.std.specs.Prelude.{ℕ, Option, Some, None, Result, Ok, Err}
use Rattle.jc_desc.specs.declared.fault.Fault.{Fault}
use Rattle.jc_facts.specs.declared.code_fault.CodeFault.{CodeFault}
use Rattle.jc_facts.specs.declared.code_fault.CodeReason.{CodeReason}
use Rattle.jc_facts.specs.declared.code_fault.CodeReason.TheVariants as reasons

-- goes on where nothing was refused
infixl 10 ◌>>=◌
abbrev pub ◌>>=◌ : {A B : Type 0} → Result A CodeFault → (A → Result B CodeFault) → Result B CodeFault
(Ok x) >>= f = f x
(Err e) >>= f = Err e

-- this refusal
abbrev pub refuse : {A : Type 0} → ℕ → CodeReason → Result A CodeFault
refuse left reason = Err (record { left = left; reason = reason })

-- a fault of reading the class file, as a refusal; a file that `Reads` accepts has none
abbrev pub unread : Fault → CodeFault
unread f = record { left = f.left; reason = reasons.BadLayout }

-- a step of reading the class file
abbrev pub read : {A : Type 0} → Result A Fault → Result A CodeFault
read (Ok x) = Ok x
read (Err f) = Err (unread f)

-- the value of an option, or a refusal
abbrev pub want : {A : Type 0} → Option A → ℕ → CodeReason → Result A CodeFault
want None left reason = refuse left reason
want (Some x) left reason = Ok x

-- a refusal of the instruction at which so many bytes are left
abbrev pub placed : {A : Type 0} → ℕ → Result A CodeReason → Result A CodeFault
placed left (Ok x) = Ok x
placed left (Err reason) = refuse left reason
