-- The generated releases: a library of n classes in a binary tree. Of each eight classes the new release changes four.
--     made n      the platform, the old and the new release
--     i % 8 = 3      the method m of the class of number i is gone
--     i % 8 = 5      it has a private method p too
--     i % 8 = 6      its field f is final
--     i % 8 = 7      its method m is final
use Rattle.std.specs.Prelude.{ℕ, List, [], ◌∷◌, ◌++◌, ◌+◌, ◌-◌, ◌/◌, ◌%◌, ◌==◌, length, map, Option, None, Some, codes, IsTrue, if◌then◌else◌, ◌≡◌}
use Rattle.std.specs.List.{All, range_with_len}
use Rattle.jc_facts.specs.declared.class_facts.ClassFacts.{ClassFacts}
use Rattle.jc_facts.specs.declared.class_facts.Member.{Member}
use Rattle.jc_facts.specs.declared.generate.Made.{Made}
use Rattle.jc_facts.specs.Names.{Bytes, object_name}
use Rattle.jc_facts.specs.file.Valid.{IsValidClass}
use Rattle.jc_facts.specs.world.World.{class_named, differ_by_name}

-- ---- records

abbrev pub member : Bytes → Bytes → ℕ → Member
member name descriptor flags = record { name = name; descriptor = descriptor; flags = flags }

-- a public class of major 52 with these members, and nothing else
abbrev pub plain_class : Bytes → Option Bytes → List Member → List Member → ClassFacts
plain_class name superclass fields methods = record {
  name = name;
  major = 52;
  flags = 0x0021;
  superclass = superclass;
  interfaces = [];
  fields = fields;
  methods = methods;
  permits = None;
  nest_host = None;
  nest_members = [];
  constants = [];
  signatures = [];
}

-- public <init>()V
abbrev pub public_init : Member
public_init = member (codes "<init>") (codes "()V") 0x0001

-- ---- numbered names

-- the last decimal digit of a number
abbrev pub digit : ℕ → ℕ
digit i = 48 + i % 10

-- the last four decimal digits of a number
unfoldable pub four_digits : ℕ → Bytes
four_digits i = digit (i / 1000) ∷ digit (i / 100) ∷ digit (i / 10) ∷ digit i ∷ []

-- the name of the class of number i
abbrev pub class_number : ℕ → Bytes
class_number i = codes "g/C" ++ four_digits i

-- the name of its superclass: the classes are a binary tree
abbrev pub superclass_number : ℕ → Bytes
superclass_number i = if i == 0 then object_name else class_number ((i - 1) / 2)

-- its field f, with these flags, and its methods m and p
abbrev pub field_f : ℕ → ℕ → Member
field_f i flags = member (codes "f" ++ four_digits i) (codes "I") flags

abbrev pub method_m : ℕ → ℕ → Member
method_m i flags = member (codes "m" ++ four_digits i) (codes "()V") flags

abbrev pub method_p : ℕ → ℕ → Member
method_p i flags = member (codes "p" ++ four_digits i) (codes "()V") flags

-- ---- the lists

-- the class of number i with these members
unfoldable pub numbered_class : ℕ → List Member → List Member → ClassFacts
numbered_class i fields methods = plain_class (class_number i) (Some (superclass_number i)) fields methods

-- the class of number i of the old release: public static int f; public <init>()V and public m()V
unfoldable pub old_class : ℕ → ClassFacts
old_class i = numbered_class i (field_f i 0x0009 ∷ []) (public_init ∷ method_m i 0x0001 ∷ [])

-- the flags of its field in the new release
abbrev pub new_flags : ℕ → ℕ
new_flags i = if i % 8 == 6 then 0x0019 else 0x0009

-- the methods that it declares there, after the initializer
abbrev pub new_methods : ℕ → List Member
new_methods i =
    if i % 8 == 3 then []
    else if i % 8 == 5 then method_m i 0x0001 ∷ method_p i 0x0002 ∷ []
    else if i % 8 == 7 then method_m i 0x0011 ∷ []
    else method_m i 0x0001 ∷ []

-- the class of number i of the new release: the same, but for these
unfoldable pub new_class : ℕ → ClassFacts
new_class i = numbered_class i (field_f i (new_flags i) ∷ []) (public_init ∷ new_methods i)

-- the platform: public class java/lang/Object with public <init>()V
abbrev pub object_class : ClassFacts
object_class = plain_class object_name None [] (public_init ∷ [])

-- the platform, and the two releases of n classes
unfoldable pub made : ℕ → Made
made n = record {
  platform = object_class ∷ [];
  old = map old_class (range_with_len 0 n);
  new = map new_class (range_with_len 0 n);
}

-- ---- what they are

-- a release over a platform: valid classes of names that differ, all of which the platform doesn't declare
pub record IsReleaseOver (platform release : List ClassFacts) : Type 0 where
  pub valid : All IsValidClass release
  pub differ : IsTrue (differ_by_name release)
  pub apart : All (λ c. class_named platform c.name ≡ None) release

-- two releases over one platform, each of n classes
pub record AreReleases (n : ℕ) (m : Made) : Type 0 where
  pub platform : IsReleaseOver [] m.platform
  pub old : IsReleaseOver m.platform m.old
  pub new : IsReleaseOver m.platform m.new
  pub one : length m.platform ≡ 1
  pub old_length : length m.old ≡ n
  pub new_length : length m.new ≡ n
