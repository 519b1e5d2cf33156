-- Records are equal exactly where the test of them passes.
use Rattle.std.proofs.Common.{◌≡◌, ◌==◌, ◌&&◌, Bool, true, List, refl, ap, subst, Option, Some, None}
use Rattle.std.specs.Cmp.Lexicographic.{pointwise, pointwise_decides}
use Rattle.std.specs.Option.{option_eq}
use Rattle.std.proofs.lemmas.Bool.{and_parts, and_from, eqb-true, eq-eqb}
use Rattle.std.proofs.lemmas.Slice.Eq.{bytes_eq-Decides}
use Rattle.jc_facts.specs.declared.class_facts.ClassFacts.{ClassFacts}
use Rattle.jc_facts.specs.declared.class_facts.Constant.{Constant}
use Rattle.jc_facts.specs.declared.class_facts.Constant.TheVariants as constants
use Rattle.jc_facts.specs.declared.class_facts.Fixed.{Fixed}
use Rattle.jc_facts.specs.declared.class_facts.Member.{Member}
use Rattle.jc_facts.specs.declared.class_facts.Signed.{Signed}
use Rattle.jc_facts.specs.declared.key.Key.{Key}
use Rattle.jc_facts.specs.Names.{same, same_key}
use Rattle.jc_facts.specs.Records.{same_member, same_constant, same_fixed, same_signed, same_head, same_attributes, same_facts}

-- the test passes exactly where the two are equal
abbrev Tells : {A : Type 0} → (A → A → Bool) → Type 0
Tells {A} E = (x y : A) → (E x y ≡ true → x ≡ y) × (x ≡ y → E x y ≡ true)

-- it does where it passes for equal ones alone, and for each one with itself
tells : {A : Type 0} (E : A → A → Bool) → ((x y : A) → E x y ≡ true → x ≡ y) → ((x : A) → E x x ≡ true) → Tells E
tells E is itself x y = (is x y, λ e. subst (λ z. E x z ≡ true) e (itself x))

names : Tells same
names x y = bytes_eq-Decides x y

options : {A : Type 0} (E : A → A → Bool) → Tells E → Tells (option_eq E)
options {A} E d = tells (option_eq E) is itself
  where
    is : (o p : Option A) → option_eq E o p ≡ true → o ≡ p
    is None None h = refl
    is None (Some y) h = absurd (cc)
    is (Some x) None h = absurd (cc)
    is (Some x) (Some y) h = ap Some ((d x y).0 h)

    itself : (o : Option A) → option_eq E o o ≡ true
    itself None = refl
    itself (Some x) = (d x x).1 refl

lists : {A : Type 0} (E : A → A → Bool) → Tells E → Tells (pointwise E)
lists E d = pointwise_decides d

keys : Tells same_key
keys = tells same_key is itself
  where
    is : (k l : Key) → same_key k l ≡ true → k ≡ l
    is k l h =
        let p = and_parts (same k.name l.name) (same k.descriptor l.descriptor) h in
        let a = (names k.name l.name).0 p.0 in
        let b = (names k.descriptor l.descriptor).0 p.1 in
        λ i. record { name = a i; descriptor = b i }

    itself : (k : Key) → same_key k k ≡ true
    itself k = and_from (same k.name k.name) (same k.descriptor k.descriptor) ((names k.name k.name).1 refl) ((names k.descriptor k.descriptor).1 refl)

members : Tells same_member
members = tells same_member is itself
  where
    is : (m n : Member) → same_member m n ≡ true → m ≡ n
    is m n h =
        let p = and_parts (same m.name n.name && same m.descriptor n.descriptor) (m.flags == n.flags) h in
        let q = and_parts (same m.name n.name) (same m.descriptor n.descriptor) p.0 in
        let a = (names m.name n.name).0 q.0 in
        let b = (names m.descriptor n.descriptor).0 q.1 in
        let f = eqb-true m.flags n.flags p.1 in
        λ i. record { name = a i; descriptor = b i; flags = f i }

    itself : (m : Member) → same_member m m ≡ true
    itself m =
        and_from (same m.name m.name && same m.descriptor m.descriptor) (m.flags == m.flags) (and_from (same m.name m.name) (same m.descriptor m.descriptor) ((names m.name m.name).1 refl) ((names m.descriptor m.descriptor).1 refl))
        (eq-eqb m.flags m.flags refl)

-- members that are the same one by one are one list
pub same_members : (ms ns : List Member) → pointwise same_member ms ns ≡ true → ms ≡ ns
same_members ms ns h = (lists same_member members ms ns).0 h

values : Tells same_constant
values = tells same_constant is itself
  where
    is : (c d : Constant) → same_constant c d ≡ true → c ≡ d
    is (constants.Int m) (constants.Int n) h = ap constants.Int (eqb-true m n h)
    is (constants.Float m) (constants.Float n) h = ap constants.Float (eqb-true m n h)
    is (constants.Long m) (constants.Long n) h = ap constants.Long (eqb-true m n h)
    is (constants.Double m) (constants.Double n) h = ap constants.Double (eqb-true m n h)
    is (constants.Text m) (constants.Text n) h = ap constants.Text ((names m n).0 h)
    is c d h = absurd (cc)

    itself : (c : Constant) → same_constant c c ≡ true
    itself (constants.Int m) = eq-eqb m m refl
    itself (constants.Float m) = eq-eqb m m refl
    itself (constants.Long m) = eq-eqb m m refl
    itself (constants.Double m) = eq-eqb m m refl
    itself (constants.Text m) = (names m m).1 refl

fixed : Tells same_fixed
fixed = tells same_fixed is itself
  where
    is : (f g : Fixed) → same_fixed f g ≡ true → f ≡ g
    is f g h =
        let p = and_parts (same_key f.key g.key) (same_constant f.value g.value) h in
        let a = (keys f.key g.key).0 p.0 in
        let b = (values f.value g.value).0 p.1 in
        λ i. record { key = a i; value = b i }

    itself : (f : Fixed) → same_fixed f f ≡ true
    itself f = and_from (same_key f.key f.key) (same_constant f.value f.value) ((keys f.key f.key).1 refl) ((values f.value f.value).1 refl)

signed : Tells same_signed
signed = tells same_signed is itself
  where
    is : (s t : Signed) → same_signed s t ≡ true → s ≡ t
    is s t h =
        let p = and_parts (option_eq same_key s.key t.key) (same s.text t.text) h in
        let a = (options same_key keys s.key t.key).0 p.0 in
        let b = (names s.text t.text).0 p.1 in
        λ i. record { key = a i; text = b i }

    itself : (s : Signed) → same_signed s s ≡ true
    itself s = and_from (option_eq same_key s.key s.key) (same s.text s.text) ((options same_key keys s.key s.key).1 refl) ((names s.text s.text).1 refl)

-- the heads of two records
record HaveSameHead (c d : ClassFacts) : Type 0 where
  name : c.name ≡ d.name
  major : c.major ≡ d.major
  flags : c.flags ≡ d.flags
  superclass : c.superclass ≡ d.superclass
  interfaces : c.interfaces ≡ d.interfaces
  fields : c.fields ≡ d.fields
  methods : c.methods ≡ d.methods

head : (c d : ClassFacts) → same_head c d ≡ true → HaveSameHead c d
head c d h =
    let p = and_parts (same c.name d.name && c.major == d.major && c.flags == d.flags && option_eq same c.superclass d.superclass && pointwise same c.interfaces d.interfaces && pointwise same_member c.fields d.fields) (pointwise same_member c.methods d.methods) h in
    let q = and_parts (same c.name d.name && c.major == d.major && c.flags == d.flags && option_eq same c.superclass d.superclass && pointwise same c.interfaces d.interfaces) (pointwise same_member c.fields d.fields) p.0 in
    let r = and_parts (same c.name d.name && c.major == d.major && c.flags == d.flags && option_eq same c.superclass d.superclass) (pointwise same c.interfaces d.interfaces) q.0 in
    let s = and_parts (same c.name d.name && c.major == d.major && c.flags == d.flags) (option_eq same c.superclass d.superclass) r.0 in
    let t = and_parts (same c.name d.name && c.major == d.major) (c.flags == d.flags) s.0 in
    let u = and_parts (same c.name d.name) (c.major == d.major) t.0 in
    record {
      name = (names c.name d.name).0 u.0;
      major = eqb-true c.major d.major u.1;
      flags = eqb-true c.flags d.flags t.1;
      superclass = (options same names c.superclass d.superclass).0 s.1;
      interfaces = (lists same names c.interfaces d.interfaces).0 r.1;
      fields = (lists same_member members c.fields d.fields).0 q.1;
      methods = (lists same_member members c.methods d.methods).0 p.1;
    }

-- the attributes of two records
record HaveSameAttributes (c d : ClassFacts) : Type 0 where
  permits : c.permits ≡ d.permits
  nest_host : c.nest_host ≡ d.nest_host
  nest_members : c.nest_members ≡ d.nest_members
  constants : c.constants ≡ d.constants
  signatures : c.signatures ≡ d.signatures

attributes : (c d : ClassFacts) → same_attributes c d ≡ true → HaveSameAttributes c d
attributes c d h =
    let p = and_parts (option_eq (pointwise same) c.permits d.permits && option_eq same c.nest_host d.nest_host && pointwise same c.nest_members d.nest_members && pointwise same_fixed c.constants d.constants) (pointwise same_signed c.signatures d.signatures) h in
    let q = and_parts (option_eq (pointwise same) c.permits d.permits && option_eq same c.nest_host d.nest_host && pointwise same c.nest_members d.nest_members) (pointwise same_fixed c.constants d.constants) p.0 in
    let r = and_parts (option_eq (pointwise same) c.permits d.permits && option_eq same c.nest_host d.nest_host) (pointwise same c.nest_members d.nest_members) q.0 in
    let s = and_parts (option_eq (pointwise same) c.permits d.permits) (option_eq same c.nest_host d.nest_host) r.0 in
    record {
      permits = (options (pointwise same) (lists same names) c.permits d.permits).0 s.0;
      nest_host = (options same names c.nest_host d.nest_host).0 s.1;
      nest_members = (lists same names c.nest_members d.nest_members).0 r.1;
      constants = (lists same_fixed fixed c.constants d.constants).0 q.1;
      signatures = (lists same_signed signed c.signatures d.signatures).0 p.1;
    }

same_facts_is : (c d : ClassFacts) → same_facts c d ≡ true → c ≡ d
same_facts_is c d h =
    let p = and_parts (same_head c d) (same_attributes c d) h in
    let a = head c d p.0 in
    let b = attributes c d p.1 in
    λ i. record {
      name = a.name i;
      major = a.major i;
      flags = a.flags i;
      superclass = a.superclass i;
      interfaces = a.interfaces i;
      fields = a.fields i;
      methods = a.methods i;
      permits = b.permits i;
      nest_host = b.nest_host i;
      nest_members = b.nest_members i;
      constants = b.constants i;
      signatures = b.signatures i;
    }

pub same_facts_itself : (c : ClassFacts) → same_facts c c ≡ true
same_facts_itself c = and_from (same_head c c) (same_attributes c c) in_head in_attributes
  where
    in_head : same_head c c ≡ true
    in_head =
        rw (
          (names c.name c.name).1 refl,
          eq-eqb c.major c.major refl,
          eq-eqb c.flags c.flags refl,
          (options same names c.superclass c.superclass).1 refl,
          (lists same names c.interfaces c.interfaces).1 refl,
          (lists same_member members c.fields c.fields).1 refl,
          (lists same_member members c.methods c.methods).1 refl,
        ) refl

    in_attributes : same_attributes c c ≡ true
    in_attributes =
        rw (
          (options (pointwise same) (lists same names) c.permits c.permits).1 refl,
          (options same names c.nest_host c.nest_host).1 refl,
          (lists same names c.nest_members c.nest_members).1 refl,
          (lists same_fixed fixed c.constants c.constants).1 refl,
          (lists same_signed signed c.signatures c.signatures).1 refl,
        ) refl

pub same_classes : (o p : Option ClassFacts) → option_eq same_facts o p ≡ true → o ≡ p
same_classes o p h = (options same_facts (tells same_facts same_facts_is same_facts_itself) o p).0 h
