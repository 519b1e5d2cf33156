-- Names, packages and keys, as bytes.
--     same x y      the two names are equal
--     package_name x      the name up to its last '/', or nothing (JVMS 5.3)
--     is_key k m      the member has this name and descriptor (JVMS 4.5, 4.6)
use Rattle.std.specs.Prelude.{ℕ, Bool, cond, List, [], ◌∷◌, ◌==◌, ◌&&◌, codes, false}
use Rattle.std.specs.Str.{bytes_eq}
use Rattle.std.specs.List.{list_any}
use Rattle.jc_facts.specs.declared.key.Key.{Key}
use Rattle.jc_facts.specs.declared.class_facts.Member.{Member}

-- a name, as the list of its bytes. The type has no bound: what is said of every name is said of lists of greater numbers too
abbrev pub Bytes : Type 0
Bytes = List ℕ

-- the two names are equal
abbrev pub same : Bytes → Bytes → Bool
same = bytes_eq

-- x is one of the names
abbrev pub is_name_among : List Bytes → Bytes → Bool
is_name_among xs x = list_any (λ y. same y x) xs

-- the package: the name up to its last '/', or nothing (JVMS 4.2.1, 5.3)
unfoldable pub package_name : Bytes → Bytes
package_name [] = []
package_name (x ∷ xs) = cond (list_any (λ y. y == 47) xs) (x ∷ package_name xs) []

-- the two classes are in one run-time package, since one loader finds all (JVMS 5.3)
abbrev pub in_same_package : Bytes → Bytes → Bool
in_same_package x y = same (package_name x) (package_name y)

-- the member has this name and descriptor
abbrev pub is_key : Key → Member → Bool
is_key k m = same m.name k.name && same m.descriptor k.descriptor

-- the two keys are equal
abbrev pub same_key : Key → Key → Bool
same_key k l = same k.name l.name && same k.descriptor l.descriptor

-- the name and the descriptor of the member
abbrev pub key_of : Member → Key
key_of m = record { name = m.name; descriptor = m.descriptor }

-- a method's descriptor begins with a parenthesis
abbrev pub is_descriptor_of_method : Bytes → Bool
is_descriptor_of_method [] = false
is_descriptor_of_method (b ∷ bs) = b == 0x28

-- the root of all classes (JVMS 4.1)
abbrev pub object_name : Bytes
object_name = codes "java/lang/Object"
