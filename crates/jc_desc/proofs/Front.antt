-- The descriptor of a type that is read from the front of bytes.
use Rattle.std.proofs.Common.{◌≡◌, ℕ, ◌-◌, List, ◌++◌, length, take, Some, ◌∙◌, arith}
use Rattle.std.proofs.lemmas.List.{length-append, take-append-le, take_all}
use Rattle.jc_desc.specs.Types.{TypeOf, type_text}
use Rattle.jc_desc.specs.Reading.{type_from}
use Rattle.jc_desc.proofs.Grammar.{type_is}

front_len : (a b : List ℕ) → length (a ++ b) - length b ≡ length a
front_len a b = simp length-append (omega arith)

front_part : (a b : List ℕ) → take (length (a ++ b) - length b) (a ++ b) ≡ a
front_part a b = rw (front_len a b) (take-append-le (length a) a b (omega arith) ∙ take_all (length a) a (omega arith))

pub text_is : (bytes : List ℕ) (t : TypeOf) (rest : List ℕ) → type_from bytes ≡ Some (t, rest) → take (length bytes - length rest) bytes ≡ type_text t
text_is bytes t rest e = let k = type_is bytes (t, rest) e in rw k.1 (front_part (type_text t) rest)
