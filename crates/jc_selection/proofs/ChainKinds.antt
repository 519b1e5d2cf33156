-- What chains have of a key.
use Rattle.std.proofs.Common.{◌≡◌, Bool, true, false, cond, List, [], ◌∷◌, ◌++◌, refl, ◌∙◌, ap, Option, Some, None, not, ◌||◌, ◌&&◌}
use Rattle.std.specs.List.{list_any}
use Rattle.std.proofs.lemmas.Bool.{and_parts, or_left, or_right, not-true}
use Rattle.jc_desc.specs.Names.{is_init_name, is_clinit_name, spells_member_name}
use Rattle.jc_desc.specs.Utf8.{is_modified_utf8}
use Rattle.jc_facts.specs.declared.class_facts.ClassFacts.{ClassFacts}
use Rattle.jc_facts.specs.declared.class_facts.Member.{Member}
use Rattle.jc_facts.specs.declared.key.Key.{Key}
use Rattle.jc_facts.specs.Names.{same, is_key}
use Rattle.jc_facts.specs.Flags.{private_flag, static_flag, final_flag, native_flag, abstract_flag}
use Rattle.jc_facts.specs.Options.{some_and}
use Rattle.jc_facts.specs.world.World.{own_method_of}
use Rattle.jc_facts.specs.file.Rules.{method_descriptor_fits, method_flags_fit, plain_method_flags_fit, one_access_at_most, implies}
use Rattle.jc_facts.specs.file.Valid.{IsValidClass, method_is_valid}
use Rattle.jc_facts.specs.world.Inheritance.{offers, is_inheritable}
use Rattle.jc_promises.specs.rule.Bases.{is_key_of_method}
use Rattle.jc_facts.proofs.Same.{same_is}
use Rattle.jc_lemmas.proofs.Bools.{imply, neither_first, neither_last}
use Rattle.jc_worlds.proofs.Inherited.{found_all}
use Rattle.jc_lemmas.proofs.Lists.{found_passes}
use Rattle.jc_facts.specs.declared.warning.ChainKind.{ChainKind}
use Rattle.jc_facts.specs.declared.warning.ChainKind.TheVariants.{Nothing, Abstract, Concrete}
use Rattle.jc_promises.specs.rule.Selection.{first_kind, declares_abstract}

-- the first that is something
abbrev pub kind_or : ChainKind → ChainKind → ChainKind
kind_or Nothing b = b
kind_or Abstract b = Abstract
kind_or Concrete b = Concrete

pub first_kind-append : (k : Key) (cs ds : List ClassFacts) → first_kind k (cs ++ ds) ≡ kind_or (first_kind k cs) (first_kind k ds)
unfolding first_kind
first_kind-append k [] ds = refl
first_kind-append k (c ∷ cs) ds = go (offers k c) (declares_abstract k c) (first_kind-append k cs ds)
  where
    go : (a b : Bool) → first_kind k (cs ++ ds) ≡ kind_or (first_kind k cs) (first_kind k ds) → cond a (cond b Abstract Concrete) (first_kind k (cs ++ ds)) ≡ kind_or (cond a (cond b Abstract Concrete) (first_kind k cs)) (first_kind k ds)
    go true true r = refl
    go true false r = refl
    go false b r = r

-- where the first is abstract, one is
pub kind-abstract : (k : Key) (cs : List ClassFacts) → first_kind k cs ≡ Abstract → list_any (declares_abstract k) cs ≡ true
unfolding first_kind
kind-abstract k [] e = absurd (cc)
kind-abstract k (c ∷ cs) e = go (offers k c) (declares_abstract k c) refl e (kind-abstract k cs)
  where
    go : (a b : Bool) → declares_abstract k c ≡ b → cond a (cond b Abstract Concrete) (first_kind k cs) ≡ Abstract → (first_kind k cs ≡ Abstract → list_any (declares_abstract k) cs ≡ true) → (declares_abstract k c || list_any (declares_abstract k) cs) ≡ true
    go true true p q r = or_left (declares_abstract k c) (list_any (declares_abstract k) cs) p
    go true false p q r = absurd (let clash : Concrete ≡ Abstract = q in cc)
    go false b p q r = or_right (declares_abstract k c) (list_any (declares_abstract k) cs) (r q)

-- where there is nothing, none offers the key
pub kind-nothing : (k : Key) (cs : List ClassFacts) → first_kind k cs ≡ Nothing → list_any (offers k) cs ≡ false
unfolding first_kind
kind-nothing k [] e = refl
kind-nothing k (c ∷ cs) e = go (offers k c) (declares_abstract k c) refl e (kind-nothing k cs)
  where
    go : (a b : Bool) → offers k c ≡ a → cond a (cond b Abstract Concrete) (first_kind k cs) ≡ Nothing → (first_kind k cs ≡ Nothing → list_any (offers k) cs ≡ false) → (offers k c || list_any (offers k) cs) ≡ false
    go true true p q r = absurd (let clash : Abstract ≡ Nothing = q in cc)
    go true false p q r = absurd (let clash : Concrete ≡ Nothing = q in cc)
    go false b p q r = rw p (r q)

-- an abstract method of a valid class is an instance method that isn't private (JVMS 4.6)
pub abstract_offers : (c : ClassFacts) (k : Key) → IsValidClass c → is_key_of_method k ≡ true → declares_abstract k c ≡ true → offers k c ≡ true
abstract_offers c k v mk h = go (own_method_of c k) refl h
  where
    plain : (m : Member) → own_method_of c k ≡ Some m → plain_method_flags_fit c.major c.flags m.name m.flags ≡ true
    plain m e =
        let n : m.name ≡ k.name = same_is m.name k.name (and_parts (same m.name k.name) (same m.descriptor k.descriptor) (found_passes (is_key k) c.methods m e)).0 in
        let z : is_clinit_name m.name ≡ false = ap is_clinit_name n ∙ neither_last (is_init_name k.name) (is_clinit_name k.name) (not-true (is_init_name k.name || is_clinit_name k.name) mk) in
        let w : method_is_valid c m ≡ true = found_all (is_key k) (method_is_valid c) c.methods m e v.methods in
        let f : method_flags_fit c.major c.flags m.name m.flags ≡ true = (and_parts (spells_member_name m.name true && is_modified_utf8 m.name && method_descriptor_fits m.name m.flags m.descriptor && is_modified_utf8 m.descriptor) (method_flags_fit c.major c.flags m.name m.flags) w).1 in
        rw z at f

    flags : (m : Member) → plain_method_flags_fit c.major c.flags m.name m.flags ≡ true → abstract_flag m.flags ≡ true → (private_flag m.flags || static_flag m.flags) ≡ false
    flags m p a =
        let f = m.flags in
        let x = and_parts (one_access_at_most f && implies (abstract_flag f) (not (private_flag f || static_flag f || final_flag f || native_flag f)) && implies (is_init_name m.name) (not (static_flag f || final_flag f || native_flag f || abstract_flag f))) _ p in
        let y = and_parts (one_access_at_most f && implies (abstract_flag f) (not (private_flag f || static_flag f || final_flag f || native_flag f))) _ x.0 in
        let z = and_parts (one_access_at_most f) (implies (abstract_flag f) (not (private_flag f || static_flag f || final_flag f || native_flag f))) y.0 in
        let n : (private_flag f || static_flag f || final_flag f || native_flag f) ≡ false = not-true (private_flag f || static_flag f || final_flag f || native_flag f) (imply (abstract_flag f) (not (private_flag f || static_flag f || final_flag f || native_flag f)) z.1 a) in
        neither_first (private_flag f || static_flag f) (final_flag f) (neither_first (private_flag f || static_flag f || final_flag f) (native_flag f) n)

    by : (p s : Bool) → (p || s) ≡ false → (not s && not p) ≡ true
    by true s e = absurd (cc)
    by false true e = absurd (cc)
    by false false e = refl

    go : (o : Option Member) → own_method_of c k ≡ o → some_and (λ (m : Member). abstract_flag m.flags) o ≡ true → some_and is_inheritable o ≡ true
    go None e q = absurd (cc)
    go (Some m) e q = by (private_flag m.flags) (static_flag m.flags) (flags m (plain m e) q)
