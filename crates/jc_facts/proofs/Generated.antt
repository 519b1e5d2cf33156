-- The generated releases are lists of valid classes of names that differ.
use Rattle.std.proofs.Common.{◌≡◌, ℕ, zero, suc, ◌+◌, ◌-◌, ◌/◌, ◌%◌, ◌≤◌, ◌<◌, ◌==◌, ◌&&◌, not, Bool, true, false, List, [], ◌∷◌, ◌++◌, map, refl, None, is_some, codes, nat_eq, nat_lt, arith, if◌then◌else◌}
use Rattle.std.specs.List.{list_all, range_with_len}
use Rattle.std.proofs.lemmas.Bool.{and_from, lt-ltb, ne_eqb}
use Rattle.std.proofs.lemmas.List.Elements.{All-map, All-from_recursion}
use Rattle.std.proofs.lemmas.List.FromFn.{length-map-range_with_len, map-range_with_len_more}
use Rattle.jc_lemmas.proofs.Listed.{EachOf, each_of}
use Rattle.jc_desc.specs.Names.{is_rest_of_name, is_byte_of_member, is_init_name, spells_member_name}
use Rattle.jc_desc.specs.Utf8.{is_modified_utf8}
use Rattle.jc_desc.specs.Reading.{field_of, type_from, basic_from, params_from, result_of, method_of, slots_of_method}
use Rattle.jc_facts.specs.declared.class_facts.ClassFacts.{ClassFacts}
use Rattle.jc_facts.specs.declared.class_facts.Member.{Member}
use Rattle.jc_facts.specs.Flags.{static_flag}
use Rattle.jc_facts.specs.Names.{Bytes, same, object_name}
use Rattle.jc_facts.specs.file.Rules.{field_flags_fit, method_flags_fit, method_descriptor_fits}
use Rattle.jc_facts.specs.file.Valid.{IsValidClass, is_valid_name, field_is_valid, method_is_valid, keys_differ, keys_of}
use Rattle.jc_facts.specs.world.World.{class_named, differ_by_name}
use Rattle.jc_facts.specs.ByName.{least}
use Rattle.jc_facts.specs.Generated.{member, public_init, digit, four_digits, class_number, superclass_number, field_f, method_m, method_p, numbered_class, old_class, new_flags, new_methods, new_class, object_class, IsReleaseOver, AreReleases}
use Rattle.jc_facts.proofs.Same.{same_is}

-- ---- lists

-- one class more
pub one_more : (f : ℕ → ClassFacts) (n : ℕ) (xs ys : List ClassFacts) (x : ClassFacts) → xs ≡ map f (range_with_len 0 n) → x ≡ f n → ys ≡ xs ++ x ∷ [] → ys ≡ map f (range_with_len 0 (n + 1))
one_more f n xs ys x a b e = let more = map-range_with_len_more f 0 n n (omega arith) in cc

-- ---- digits

record IsDigit (c : ℕ) : Type 0 where
  low : 48 ≤ c
  high : c ≤ 57

is_digit : (i : ℕ) → IsDigit (digit i)
is_digit i = record { low = omega arith; high = omega arith }

digits : (i : ℕ) → EachOf IsDigit (four_digits i)
unfolding four_digits
digits i = (is_digit (i / 1000), (is_digit (i / 100), (is_digit (i / 10), (is_digit i, tt))))

names : (cs : Bytes) → EachOf IsDigit cs → is_rest_of_name false cs ≡ true
names [] h = refl
names (c ∷ cs) h =
    let a : nat_eq c 46 ≡ false = ne_eqb c 46 (λ e. omega (arith, h.0.low, e)) in
    let b : nat_eq c 59 ≡ false = ne_eqb c 59 (λ e. omega (arith, h.0.high, e)) in
    let d : nat_eq c 91 ≡ false = ne_eqb c 91 (λ e. omega (arith, h.0.high, e)) in
    let g : nat_eq c 47 ≡ false = ne_eqb c 47 (λ e. omega (arith, h.0.low, e)) in
    rw (a, b, d, g) (names cs h.1)

texts : (cs : Bytes) → EachOf IsDigit cs → is_modified_utf8 cs ≡ true
texts [] h = refl
texts (c ∷ cs) h =
    let a : nat_lt c 128 ≡ true = lt-ltb c 128 (omega (arith, h.0.high)) in
    let b : nat_eq c 0 ≡ false = ne_eqb c 0 (λ e. omega (arith, h.0.low, e)) in
    rw (a, b) (texts cs h.1)

-- a digit in a name of a field or of a method
in_member : (method : Bool) (c : ℕ) → IsDigit c → is_byte_of_member method c ≡ true
in_member method c h =
    let a : nat_eq c 46 ≡ false = ne_eqb c 46 (λ e. omega (arith, h.low, e)) in
    let b : nat_eq c 59 ≡ false = ne_eqb c 59 (λ e. omega (arith, h.high, e)) in
    let d : nat_eq c 91 ≡ false = ne_eqb c 91 (λ e. omega (arith, h.high, e)) in
    let g : nat_eq c 47 ≡ false = ne_eqb c 47 (λ e. omega (arith, h.low, e)) in
    let l : nat_eq c 60 ≡ false = ne_eqb c 60 (λ e. omega (arith, h.high, e)) in
    let m : nat_eq c 62 ≡ false = ne_eqb c 62 (λ e. omega (arith, h.high, e)) in
    rw (a, b, d, g, l, m) (by method)
  where
    by : (b : Bool) → not (b && false) ≡ true
    by true = refl
    by false = refl

members : (method : Bool) (cs : Bytes) → EachOf IsDigit cs → list_all (is_byte_of_member method) cs ≡ true
members method [] h = refl
members method (c ∷ cs) h = rw (in_member method c h.0) (members method cs h.1)

-- ---- valid classes

name_valid : (i : ℕ) → is_valid_name (class_number i) ≡ true
name_valid i = rw (names (four_digits i) (digits i), texts (four_digits i) (digits i)) refl

superclass_valid : (i : ℕ) → is_valid_name (superclass_number i) ≡ true
superclass_valid i = by (i == 0)
  where
    by : (b : Bool) → is_valid_name (if b then object_name else class_number ((i - 1) / 2)) ≡ true
    by true = refl
    by false = name_valid ((i - 1) / 2)

f_valid : (c : ClassFacts) (i flags : ℕ) → field_flags_fit c.flags flags ≡ true → field_is_valid c (field_f i flags) ≡ true
unfolding field_of type_from basic_from
f_valid c i flags h = rw (members false (four_digits i) (digits i), texts (four_digits i) (digits i), h) refl

init_valid : (c : ClassFacts) → c.flags ≡ 0x0021 → method_is_valid c public_init ≡ true
unfolding params_from result_of method_of slots_of_method
init_valid c e = rw e refl

-- of a method that takes nothing and returns nothing
takes_nothing : (name : Bytes) (flags : ℕ) → is_init_name name ≡ false → static_flag flags ≡ false → method_descriptor_fits name flags (codes "()V") ≡ true
unfolding params_from result_of method_of slots_of_method
takes_nothing name flags n h = rw (n, h) refl

method_valid : (c : ClassFacts) (name : Bytes) (flags : ℕ) → spells_member_name name true ≡ true → is_modified_utf8 name ≡ true → method_descriptor_fits name flags (codes "()V") ≡ true → method_flags_fit c.major c.flags name flags ≡ true
    → method_is_valid c (member name (codes "()V") flags) ≡ true
method_valid c name flags a b d e = rw (a, b, d, e) refl

m_valid : (c : ClassFacts) (i flags : ℕ) → static_flag flags ≡ false → method_flags_fit c.major c.flags (method_m i flags).name flags ≡ true → method_is_valid c (method_m i flags) ≡ true
m_valid c i flags h k = method_valid c (method_m i flags).name flags (members true (four_digits i) (digits i)) (texts (four_digits i) (digits i)) (takes_nothing (method_m i flags).name flags refl h) k

p_valid : (c : ClassFacts) (i flags : ℕ) → static_flag flags ≡ false → method_flags_fit c.major c.flags (method_p i flags).name flags ≡ true → method_is_valid c (method_p i flags) ≡ true
p_valid c i flags h k = method_valid c (method_p i flags).name flags (members true (four_digits i) (digits i)) (texts (four_digits i) (digits i)) (takes_nothing (method_p i flags).name flags refl h) k

-- what the members have to be
record AreMembers (fields methods : List Member) : Type 0 where
  field : (c : ClassFacts) → c.flags ≡ 0x0021 → list_all (field_is_valid c) fields ≡ true
  fields_differ : keys_differ (keys_of fields) ≡ true
  method : (c : ClassFacts) → c.flags ≡ 0x0021 → list_all (method_is_valid c) methods ≡ true
  methods_differ : keys_differ (keys_of methods) ≡ true

class_valid : (i : ℕ) (fields methods : List Member) → AreMembers fields methods → IsValidClass (numbered_class i fields methods)
unfolding numbered_class
class_valid i fields methods h = record {
  name = name_valid i;
  flags = refl;
  superclass = rw (superclass_valid i) refl;
  interfaces = refl;
  fields = h.field (numbered_class i fields methods) refl;
  fields_differ = h.fields_differ;
  methods = h.method (numbered_class i fields methods) refl;
  methods_differ = h.methods_differ;
  permits = refl;
  nest_host = refl;
  nest_members = refl;
  constants = refl;
  constants_differ = refl;
  signatures = refl;
  signatures_differ = refl;
  one_of_class = refl;
}

old_valid : (i : ℕ) → IsValidClass (old_class i)
unfolding old_class
old_valid i = class_valid i _ _ (record {
  field = λ c e. rw (f_valid c i 0x0009 (rw e refl)) refl;
  fields_differ = refl;
  method = λ c e. rw (init_valid c e, m_valid c i 0x0001 refl (rw e refl)) refl;
  methods_differ = refl;
})

new_flags_fit : (i : ℕ) → field_flags_fit 0x0021 (new_flags i) ≡ true
new_flags_fit i = by (i % 8 == 6)
  where
    by : (b : Bool) → field_flags_fit 0x0021 (if b then 0x0019 else 0x0009) ≡ true
    by true = refl
    by false = refl

two_valid : (c : ClassFacts) (m p : Member) → method_is_valid c m ≡ true → method_is_valid c p ≡ true → list_all (method_is_valid c) (m ∷ p ∷ []) ≡ true
two_valid c m p h k = and_from (method_is_valid c m) (method_is_valid c p && true) h (and_from (method_is_valid c p) true k refl)

new_methods_valid : (i : ℕ) (c : ClassFacts) → c.flags ≡ 0x0021 → list_all (method_is_valid c) (new_methods i) ≡ true
new_methods_valid i c e = by (i % 8 == 3) (i % 8 == 5) (i % 8 == 7)
  where
    by : (gone added final : Bool) → list_all (method_is_valid c) (if gone then [] else if added then method_m i 0x0001 ∷ method_p i 0x0002 ∷ [] else if final then method_m i 0x0011 ∷ [] else method_m i 0x0001 ∷ []) ≡ true
    by true added final = refl
    by false true final = two_valid c (method_m i 0x0001) (method_p i 0x0002) (m_valid c i 0x0001 refl (rw e refl)) (p_valid c i 0x0002 refl (rw e refl))
    by false false true = rw (m_valid c i 0x0011 refl (rw e refl)) refl
    by false false false = rw (m_valid c i 0x0001 refl (rw e refl)) refl

new_methods_differ : (i : ℕ) → keys_differ (keys_of (public_init ∷ new_methods i)) ≡ true
new_methods_differ i = by (i % 8 == 3) (i % 8 == 5) (i % 8 == 7)
  where
    by : (gone added final : Bool) → keys_differ (keys_of (public_init ∷ (if gone then [] else if added then method_m i 0x0001 ∷ method_p i 0x0002 ∷ [] else if final then method_m i 0x0011 ∷ [] else method_m i 0x0001 ∷ []))) ≡ true
    by true added final = refl
    by false true final = refl
    by false false true = refl
    by false false false = refl

new_valid : (i : ℕ) → IsValidClass (new_class i)
unfolding new_class
new_valid i = class_valid i _ _ (record {
  field = λ c e. rw (f_valid c i (new_flags i) (rw e (new_flags_fit i))) refl;
  fields_differ = refl;
  method = λ c e. rw (init_valid c e) (new_methods_valid i c e);
  methods_differ = new_methods_differ i;
})

object_valid : IsValidClass object_class
object_valid = record {
  name = refl;
  flags = refl;
  superclass = refl;
  interfaces = refl;
  fields = refl;
  fields_differ = refl;
  methods = rw (init_valid object_class refl) refl;
  methods_differ = refl;
  permits = refl;
  nest_host = refl;
  nest_members = refl;
  constants = refl;
  constants_differ = refl;
  signatures = refl;
  signatures_differ = refl;
  one_of_class = refl;
}

-- ---- names that differ

one_number : (i j : ℕ) → i < 10000 → j < 10000 → class_number i ≡ class_number j → i ≡ j
unfolding four_digits
one_number i j l m e =
    let a : 48 + i / 1000 % 10 ≡ 48 + j / 1000 % 10 = cc in
    let b : 48 + i / 100 % 10 ≡ 48 + j / 100 % 10 = cc in
    let c : 48 + i / 10 % 10 ≡ 48 + j / 10 % 10 = cc in
    let d : 48 + i % 10 ≡ 48 + j % 10 = cc in
    omega arith

apart : (i j : ℕ) → i < j → j < 10000 → same (class_number j) (class_number i) ≡ false
apart i j l m = by (same (class_number j) (class_number i)) refl
  where
    by : (b : Bool) → same (class_number j) (class_number i) ≡ b → b ≡ false
    by false e = refl
    by true e = absurd (let k : j ≡ i = one_number j i m (omega arith) (same_is (class_number j) (class_number i) e) in omega arith)

-- classes that have the numbered names
module _ (f : ℕ → ClassFacts) (named : (i : ℕ) → (f i).name ≡ class_number i) where
  not_among : (i a n : ℕ) → i < a → a + n ≤ 10000 → class_named (map f (range_with_len a n)) (f i).name ≡ None
  unfolding class_named
  not_among i a zero l h = refl
  not_among i a (suc n) l h =
      let e : same (f a).name (f i).name ≡ false = rw (named a, named i) (apart i a l (omega arith)) in
      rw e (not_among i (a + 1) n (omega arith) (omega arith))

  all_differ : (a n : ℕ) → a + n ≤ 10000 → differ_by_name (map f (range_with_len a n)) ≡ true
  unfolding differ_by_name
  all_differ a zero h = refl
  all_differ a (suc n) h = rw (not_among a (a + 1) n (omega arith) (omega arith)) (all_differ (a + 1) n (omega arith))

  not_object : (i : ℕ) → class_named (object_class ∷ []) (f i).name ≡ None
  unfolding class_named
  not_object i = rw (named i) refl

  release : (n : ℕ) → n ≤ 4096 → ((i : ℕ) → IsValidClass (f i)) → IsReleaseOver (object_class ∷ []) (map f (range_with_len 0 n))
  release n h v = record {
    valid = All-map IsValidClass f (range_with_len 0 n) (All-from_recursion _ _ (each_of (λ (i : ℕ). IsValidClass (f i)) v (range_with_len 0 n)));
    differ = all_differ 0 n (omega arith);
    apart = All-map (λ (c : ClassFacts). class_named (object_class ∷ []) c.name ≡ None) f (range_with_len 0 n)
        (All-from_recursion _ _ (each_of (λ (i : ℕ). class_named (object_class ∷ []) (f i).name ≡ None) not_object (range_with_len 0 n)));
  }

old_name : (i : ℕ) → (old_class i).name ≡ class_number i
unfolding old_class numbered_class
old_name i = refl

new_name : (i : ℕ) → (new_class i).name ≡ class_number i
unfolding new_class numbered_class
new_name i = refl

platform : IsReleaseOver [] (object_class ∷ [])
unfolding class_named differ_by_name
platform = record {
  valid = All-from_recursion IsValidClass (object_class ∷ []) (object_valid, tt);
  differ = refl;
  apart = All-from_recursion (λ (c : ClassFacts). class_named [] c.name ≡ None) (object_class ∷ []) (refl, tt);
}

-- the lists of n classes
pub releases : (n : ℕ) (below old new : List ClassFacts) → n ≤ 4096 → below ≡ object_class ∷ [] → old ≡ map old_class (range_with_len 0 n) → new ≡ map new_class (range_with_len 0 n)
    → AreReleases n (record { platform = below; old = old; new = new })
releases n below old new h a b c = rw (a, b, c) (record {
  platform = platform;
  old = release old_class old_name n h old_valid;
  new = release new_class new_name n h new_valid;
  one = refl;
  old_length = length-map-range_with_len old_class 0 n;
  new_length = length-map-range_with_len new_class 0 n;
})

-- no name of theirs is the platform's
pub nothing_least : (platform release : List ClassFacts) → EachOf (λ c. class_named platform c.name ≡ None) release → least (λ x. is_some (class_named platform x)) release ≡ None
unfolding least
nothing_least platform [] h = refl
nothing_least platform (c ∷ cs) h = rw (h.0, nothing_least platform cs h.1) refl
