-- The items of a class file that is read are those that a valid client may have.
use Rattle.std.proofs.Common.{◌≡◌, ℕ, zero, suc, ◌+◌, ◌-◌, codes, Bool, true, false, cond, not, ◌||◌, ◌&&◌, List, [], ◌∷◌, ◌++◌, drop, length, nat_eq, Option, Some, None, Result, Ok, Err, refl, ap, subst, ◌∙◌}
use Rattle.std.specs.List.{list_all}
use Rattle.std.proofs.lemmas.List.Folds.{list_all-append}
use Rattle.std.proofs.lemmas.Bool.{eqb-true, not-true}
use Rattle.jc_desc.proofs.Sound.{some_if_is}
use Rattle.jc_desc.specs.Names.{is_init_name, is_clinit_name, spells_member_name}
use Rattle.jc_desc.specs.Pool.{PoolOf, names_used_method, describes_method, no_result}
use Rattle.jc_desc.specs.PoolAnswers.{MemberRefOf, HandleRefOf, some_if, class_in, member_ref_in, handle_in}
use Rattle.jc_desc.specs.Reading.{method_of}
use Rattle.jc_facts.specs.declared.act.Act.{Act}
use Rattle.jc_facts.specs.declared.act.Act.TheVariants as act
use Rattle.jc_facts.specs.declared.class_facts.ClassFacts.{ClassFacts}
use Rattle.jc_facts.specs.declared.client.Item.{Item}
use Rattle.jc_facts.specs.declared.client.Item.TheVariants as item
use Rattle.jc_desc.specs.Faults.{number_at}
use Rattle.jc_facts.specs.declared.class_facts.Member.{Member}
use Rattle.jc_facts.specs.declared.client.Place.{Place}
use Rattle.jc_facts.specs.declared.code_fault.CodeFault.{CodeFault}
use Rattle.jc_facts.specs.declared.code_fault.CodeReason.{CodeReason}
use Rattle.jc_facts.specs.declared.code_fault.CodeReason.TheVariants as reasons
use Rattle.jc_desc.specs.declared.fault.Fault.{Fault}
use Rattle.jc_facts.specs.Names.{Bytes}
use Rattle.jc_facts.specs.code.Lengths.{instruction_length}
use Rattle.jc_facts.specs.file.ClassParts.{Attribute, ClassHead}
use Rattle.jc_facts.specs.file.ClassSteps.{attribute_from, has_this_name, member_head_from}
use Rattle.jc_facts.specs.code.ClientItems.{around, attribute_items, attributes_items, method_items, methods_items}
use Rattle.jc_facts.specs.client.Acts.{is_act_on_field}
use Rattle.jc_facts.specs.client.Valid.{is_item_of}
use Rattle.jc_facts.specs.file.Attributes.{BootstrapOf, is_array_name, ◌|>>◌}
use Rattle.jc_facts.specs.code.Code.{Around, access, of_member, is_own, member_at, named, place_of, field_use, interface_use, used, operand, instruction_at, next_at, scan_at}
use Rattle.jc_facts.specs.file.Refusals.{◌>>=◌, read, want, placed}
use Rattle.jc_pool.specs.Law.{IsSoundMember, IsSoundHandle}
use Rattle.jc_facts.proofs.Options.{some_then}

-- each of them is an item that a valid client of this record may have
abbrev pub Good : ClassFacts → List Item → Type 0
Good c is = list_all (is_item_of c) is ≡ true

-- the record's name and superclass are those of the class
pub record Suits (c : ClassFacts) (a : Around) : Type 0 where
  pub class_is : c.name ≡ a.class
  pub super_is : c.superclass ≡ a.superclass

pub joined : (c : ClassFacts) (xs ys : List Item) → Good c xs → Good c ys → Good c (xs ++ ys)
joined c xs ys p q = list_all-append (is_item_of c) xs ys ∙ rw (p, q) refl

pub one : (c : ClassFacts) (i : Item) → is_item_of c i ≡ true → Good c (i ∷ [])
one c i p = rw p refl

-- what is good of options
abbrev pub GoodOption : ClassFacts → Option (List Item) → Type 0
GoodOption c None = Unit {0}
GoodOption c (Some is) = Good c is

abbrev pub GoodResult : ClassFacts → Result (List Item) CodeFault → Type 0
GoodResult c (Err e) = Unit {0}
GoodResult c (Ok is) = Good c is

-- an item of a member, or of its array class
pub member_good : (c : ClassFacts) (m : MemberRefOf) (i : Item) → is_item_of c i ≡ true → is_item_of c (of_member m i) ≡ true
member_good c m i p = go (is_array_name m.class) where
  go : (b : Bool) → is_item_of c (cond b (item.Class m.class) i) ≡ true
  go true = refl
  go false = p

pub field_good : (c : ClassFacts) (a : Act) (m : MemberRefOf) (p : Place) → is_act_on_field a ≡ true → is_item_of c (access a m p) ≡ true
field_good c a m p f = member_good c m (item.Access a m.class (record { name = m.name; descriptor = m.descriptor }) None p) (rw f refl)

-- a member that is no initializer
pub plain_good : (c : ClassFacts) (a : Act) (m : MemberRefOf) (p : Place) → is_init_name m.name ≡ false → is_clinit_name m.name ≡ false → is_item_of c (access a m p) ≡ true
plain_good c a m p i k = member_good c m (item.Access a m.class (record { name = m.name; descriptor = m.descriptor }) None p) (go (is_act_on_field a)) where
  go : (f : Bool) → (f || not (is_init_name m.name || is_clinit_name m.name)) ≡ true
  go true = refl
  go false = rw (i, k) refl

pub own_good : (c : ClassFacts) (a : Around) (name descriptor : Bytes) → Suits c a → is_own a name ≡ true → is_item_of c (item.Init name descriptor) ≡ true
own_good c a name descriptor s o = rw (s.class_is, s.super_is) o

-- ---- what pools answer

-- members and handles of the pool have the form that is asked for
pub record Sound (pool : PoolOf) : Type 0 where
  pub members : (i : ℕ) (m : MemberRefOf) → member_ref_in pool i ≡ Some m → IsSoundMember m
  pub handles : (i : ℕ) (h : HandleRefOf) → handle_in pool i ≡ Some h → IsSoundHandle h

last_two : (a b c d : Bool) → (a && b && c && d) ≡ true → (c ≡ true) × (d ≡ true)
last_two true true true d h = (refl, h)
last_two true true false d h = absurd (let q : false ≡ true = h in cc)
last_two true false c d h = absurd (let q : false ≡ true = h in cc)
last_two false b c d h = absurd (let q : false ≡ true = h in cc)

-- a method that is referred to is no class initializer
pub used_clinit : (interface : Bool) (name descriptor : Bytes) → names_used_method interface name descriptor ≡ true → is_clinit_name name ≡ false
used_clinit interface name descriptor h =
    not-true (is_clinit_name name) (last_two (describes_method descriptor) (spells_member_name name true) (not (is_clinit_name name)) (not (is_init_name name) || (not interface && no_result (method_of descriptor))) h).0

neither : (b r : Bool) → (not b || (false && r)) ≡ true → not b ≡ true
neither true r h = absurd (let q : false ≡ true = h in cc)
neither false r h = refl

-- one of an interface is no instance initializer either
pub used_interface : (name descriptor : Bytes) → names_used_method true name descriptor ≡ true → is_init_name name ≡ false
used_interface name descriptor h =
    not-true (is_init_name name) (neither (is_init_name name) (no_result (method_of descriptor)) (last_two (describes_method descriptor) (spells_member_name name true) (not (is_clinit_name name)) (not (is_init_name name) || (false && no_result (method_of descriptor))) h).1)

-- ---- walks: what each instruction gives is good, so all is

abbrev pub GoodPair : {B : Type 0} → ClassFacts → Result (B × List Item) CodeFault → Type 0
GoodPair {B} c (Err e) = Unit {0}
GoodPair {B} c (Ok x) = Good c x.1

abbrev pub GoodRead : ClassFacts → Result (List Item × Bytes) CodeFault → Type 0
GoodRead c (Err e) = Unit {0}
GoodRead c (Ok x) = Good c x.0

instruction_good : (c : ClassFacts) (a : Around) (left pc op : ℕ) (rest : Bytes) → ((o i : ℕ) → GoodOption c (used a o i)) → GoodPair c (instruction_at a left pc op rest)
unfolding instruction_at
instruction_good c a left pc op rest g = go (instruction_length pc op rest) (used a op (operand op rest)) (g op (operand op rest)) where
  go : (l : Result ℕ CodeReason) (u : Option (List Item)) → GoodOption c u → GoodPair c (placed (left - pc) l >>= λ len. want u (left - pc) reasons.BadEntry >>= λ is. Ok (len, is))
  go (Err r) u h = tt
  go (Ok n) None h = tt
  go (Ok n) (Some is) h = h

next_good : (c : ClassFacts) (a : Around) (left pc : ℕ) (bytes : Bytes) → ((o i : ℕ) → GoodOption c (used a o i)) → GoodPair c (next_at a left pc bytes)
unfolding next_at
next_good c a left pc [] g = refl
next_good c a left pc (op ∷ rest) g = instruction_good c a left pc op rest g

follow_good : {B : Type 0} (c : ClassFacts) (x : Result (B × List Item) CodeFault) (next : B → Result (List Item) CodeFault) → GoodPair c x → ((n : B) → GoodResult c (next n)) → GoodResult c (x >>= λ y. next y.0 >>= λ ys. Ok (y.1 ++ ys))
follow_good {B} c (Err e) next g h = tt
follow_good {B} c (Ok y) next g h = go (next y.0) (h y.0) where
  go : (r : Result (List Item) CodeFault) → GoodResult c r → GoodResult c (r >>= λ ys. Ok (y.1 ++ ys))
  go (Err e) k = tt
  go (Ok ys) k = joined c y.1 ys g k

pub scan_good : (c : ClassFacts) (a : Around) (left n pc : ℕ) (bytes : Bytes) → ((o i : ℕ) → GoodOption c (used a o i)) → GoodResult c (scan_at a left n pc bytes)
unfolding scan_at
scan_good c a left zero pc bytes g = refl
scan_good c a left (suc n) pc bytes g = follow_good c (next_at a left pc bytes) (λ i. scan_at a left n (pc + i) (drop i bytes)) (next_good c a left pc bytes g) (λ i. scan_good c a left n (pc + i) (drop i bytes) g)

others_good : (c : ClassFacts) (xs : List Item) (others : Result (List Item × Bytes) CodeFault) → Good c xs → GoodRead c others → GoodRead c (others >>= λ o. Ok (xs ++ o.0, o.1))
others_good c xs (Err e) g h = tt
others_good c xs (Ok o) g h = joined c xs o.0 g h

pub attributes_good : (c : ClassFacts) (a : Around) (seen : Bool) (n : ℕ) (bytes : Bytes) → ((s : Bool) (left : ℕ) (x : Attribute) → GoodResult c (attribute_items a s left x)) → GoodRead c (attributes_items a seen n bytes)
unfolding attributes_items
attributes_good c a seen zero bytes g = refl
attributes_good c a seen (suc n) bytes g = go (λ s rest. attributes_good c a s n rest g) (attribute_from a.pool bytes) where
  next : ((s : Bool) (rest : Bytes) → GoodRead c (attributes_items a s n rest)) → (x : Attribute) (rest : Bytes) (r : Result (List Item) CodeFault) → GoodResult c r → GoodRead c (r >>= λ is. attributes_items a (seen || has_this_name x (codes "Code")) n rest >>= λ o. Ok (is ++ o.0, o.1))
  next more x rest (Err e) h = tt
  next more x rest (Ok is) h = others_good c is (attributes_items a (seen || has_this_name x (codes "Code")) n rest) h (more (seen || has_this_name x (codes "Code")) rest)

  go : ((s : Bool) (rest : Bytes) → GoodRead c (attributes_items a s n rest)) → (r : Result (Attribute × Bytes) Fault) → GoodRead c (read r >>= λ x. attribute_items a seen (length bytes) x.0 >>= λ is. attributes_items a (seen || has_this_name x.0 (codes "Code")) n x.1 >>= λ o. Ok (is ++ o.0, o.1))
  go more (Err e) = tt
  go more (Ok x) = next more x.0 x.1 (attribute_items a seen (length bytes) x.0) (g seen (length bytes) x.0)

pub method_good : (c : ClassFacts) (pool : PoolOf) (head : ClassHead) (boots : Option (List BootstrapOf)) (bytes : Bytes)
    → ((m : Member) (s : Bool) (left : ℕ) (x : Attribute) → GoodResult c (attribute_items (around pool head boots m) s left x)) → GoodRead c (method_items pool head boots bytes)
unfolding method_items
method_good c pool head boots bytes g = go (member_head_from true pool head.flags bytes) where
  next : (m : Member) (r : Result (ℕ × Bytes) Fault) → GoodRead c (read r >>= λ n. attributes_items (around pool head boots m) false n.0 n.1)
  next m (Err e) = tt
  next m (Ok n) = attributes_good c (around pool head boots m) false n.0 n.1 (g m)

  go : (r : Result (Member × Bytes) Fault) → GoodRead c (read r >>= λ m. read (number_at 2 m.1) >>= λ n. attributes_items (around pool head boots m.0) false n.0 n.1)
  go (Err e) = tt
  go (Ok m) = next m.0 (number_at 2 m.1)

pub methods_good : (c : ClassFacts) (pool : PoolOf) (head : ClassHead) (boots : Option (List BootstrapOf)) (n : ℕ) (bytes : Bytes)
    → ((b : Bytes) → GoodRead c (method_items pool head boots b)) → GoodRead c (methods_items pool head boots n bytes)
unfolding methods_items
methods_good c pool head boots zero bytes g = refl
methods_good c pool head boots (suc n) bytes g = go (λ rest. methods_good c pool head boots n rest g) (method_items pool head boots bytes) (g bytes) where
  go : ((rest : Bytes) → GoodRead c (methods_items pool head boots n rest)) → (r : Result (List Item × Bytes) CodeFault) → GoodRead c r → GoodRead c (r >>= λ x. methods_items pool head boots n x.1 >>= λ o. Ok (x.0 ++ o.0, o.1))
  go more (Err e) h = tt
  go more (Ok x) h = others_good c x.0 (methods_items pool head boots n x.1) h (more x.1)

-- ---- what pool entries give

pub pick : (c : ClassFacts) (b : Bool) (x y : Option (List Item)) → GoodOption c x → GoodOption c y → GoodOption c (cond b x y)
pick c true x y p q = p
pick c false x y p q = q

pub given : {A : Type 0} (c : ClassFacts) (o : Option A) (f : A → List Item) → ((m : A) → o ≡ Some m → Good c (f m)) → GoodOption c (o |>> λ m. Some (f m))
given {A} c None f g = tt
given {A} c (Some m) f g = g m refl

pub member_is : (pool : PoolOf) (tag other i : ℕ) (m : MemberRefOf) → member_at pool tag other i ≡ Some m → (member_ref_in pool i ≡ Some m) × ((nat_eq m.tag tag || nat_eq m.tag other) ≡ true)
member_is pool tag other i m e =
    let b = some_then (member_ref_in pool i) (λ (x : MemberRefOf). some_if (nat_eq x.tag tag || nat_eq x.tag other) x) m e in
    let p = some_if_is (nat_eq b.0.tag tag || nat_eq b.0.tag other) b.0 m b.2 in
    (b.1 ∙ ap (λ (x : MemberRefOf). Some x) p.1, subst (λ (x : MemberRefOf). (nat_eq x.tag tag || nat_eq x.tag other) ≡ true) p.1 p.0)

pub named_good : (c : ClassFacts) (pool : PoolOf) (i : ℕ) → GoodOption c (named pool i)
named_good c pool i = given c (class_in pool i) (λ (name : Bytes). item.Class name ∷ []) (λ name e. refl)

pub field_use_good : (c : ClassFacts) (a : Around) (what : Act) (i : ℕ) → is_act_on_field what ≡ true → GoodOption c (field_use a what i)
field_use_good c a what i f = given c (member_at a.pool 9 9 i) (λ (m : MemberRefOf). access what m (place_of a.name) ∷ []) (λ m e. one c (access what m (place_of a.name)) (field_good c what m (place_of a.name) f))

pub interface_use_good : (c : ClassFacts) (a : Around) (i : ℕ) → Sound a.pool → GoodOption c (interface_use a i)
interface_use_good c a i s = given c (member_at a.pool 11 11 i) (λ (m : MemberRefOf). access act.InvokeInterface m (place_of a.name) ∷ []) (λ m e.
    let k = member_is a.pool 11 11 i m e in
    let t : m.tag ≡ 11 = eqb-true m.tag 11 (same_or (nat_eq m.tag 11) k.1) in
    let w = (s.members i m k.0).interface_method t in
    one c (access act.InvokeInterface m (place_of a.name)) (plain_good c act.InvokeInterface m (place_of a.name) (used_interface m.name m.descriptor w) (used_clinit true m.name m.descriptor w)))
  where
    same_or : (b : Bool) → (b || b) ≡ true → b ≡ true
    same_or true h = refl
    same_or false h = h
