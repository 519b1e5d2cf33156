-- Equality of names and of keys, as a test and as an equation.
use Rattle.std.proofs.Common.{◌≡◌, true, refl}
use Rattle.std.proofs.lemmas.Bool.{and_from}
use Rattle.std.proofs.lemmas.Slice.Eq.{bytes_eq-Decides}
use Rattle.jc_facts.specs.Names.{Bytes, same, same_key}
use Rattle.jc_facts.specs.declared.key.Key.{Key}

pub same_is : (x y : Bytes) → same x y ≡ true → x ≡ y
same_is x y h = (bytes_eq-Decides x y).0 h

pub same_itself : (x : Bytes) → same x x ≡ true
same_itself x = (bytes_eq-Decides x x).1 refl

pub key_itself : (k : Key) → same_key k k ≡ true
key_itself k = and_from (same k.name k.name) (same k.descriptor k.descriptor) (same_itself k.name) (same_itself k.descriptor)
