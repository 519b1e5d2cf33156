-- Where records are valid, the methods that the steps on superinterfaces find are public instance methods.
use Rattle.std.proofs.Common.{◌≡◌, Bool, true, false, cond, List, [], ◌∷◌, refl, Option, Some, None, not, ◌||◌, ◌&&◌, nat_le, ◌+◌}
use Rattle.std.proofs.lemmas.Bool.{and_parts}
use Rattle.std.specs.List.{list_all, filter, find as first_where}
use Rattle.jc_facts.specs.declared.class_facts.ClassFacts.{ClassFacts}
use Rattle.jc_facts.specs.declared.class_facts.Member.{Member}
use Rattle.jc_facts.specs.declared.key.Key.{Key}
use Rattle.jc_facts.specs.Names.{Bytes, same, is_key}
use Rattle.jc_desc.specs.Names.{is_clinit_name}
use Rattle.jc_facts.specs.Flags.{interface_flag, public_flag, private_flag, protected_flag, static_flag}
use Rattle.jc_facts.specs.world.World.{World, find_class, DeclaredMember, own_method_of, found_in}
use Rattle.jc_facts.specs.world.Hierarchy.{superinterfaces}
use Rattle.jc_facts.specs.Options.{some_and}
use Rattle.jc_desc.specs.Reading.{slots_of_method}
use Rattle.jc_facts.specs.world.Loading.{load_fault}
use Rattle.jc_facts.specs.world.Lookup.{if_inheritable, declared_by, only_or, is_maximal, is_concrete, superinterface_choices}
use Rattle.jc_facts.specs.file.Valid.{IsValidClass}
use Rattle.jc_worlds.proofs.ValidFacts.{method_fits, has_one_access, fit_of}
use Rattle.jc_lemmas.proofs.Listed.{EachOf, EachOf-append, filter-each}
use Rattle.jc_lemmas.proofs.Lists.{found_passes}
use Rattle.jc_facts.proofs.Same.{same_is}
use Rattle.jc_worlds.proofs.Above.{superinterfaces-each}
use Rattle.jc_lemmas.proofs.Bools.{neither_first}

-- what is found passes what each of the list passes
pub found_all : {A : Type 0} (test p : A → Bool) (xs : List A) (x : A) → first_where test xs ≡ Some x → list_all p xs ≡ true → p x ≡ true
found_all test p [] x e h = absurd (cc)
found_all test p (y ∷ xs) x e h = go (test y) e (found_all test p xs x)
  where
    parts : (p y ≡ true) × (list_all p xs ≡ true)
    parts = and_parts (p y) (list_all p xs) h

    go : (b : Bool) → cond b (Some y) (first_where test xs) ≡ Some x → (first_where test xs ≡ Some x → list_all p xs ≡ true → p x ≡ true) → p x ≡ true
    go true q r = let k : y ≡ x = cc in rw (← k) parts.0
    go false q r = r q parts.1

interface_access : (i p q : Bool) → (not i || (q || p)) ≡ true → i ≡ true → p ≡ false → q ≡ true
interface_access i p true h e f = refl
interface_access true false false h e f = h
interface_access true true false h e f = absurd (cc)
interface_access false p false h e f = absurd (cc)

-- the flags of a method other than a class initializer
method_flags : (c : ClassFacts) (m : Member) → is_clinit_name m.name ≡ false → method_fits c m ≡ true → (has_one_access m.flags && (not (interface_flag c.flags) || (public_flag m.flags || private_flag m.flags))) ≡ true
method_flags c m n v =
    let a = and_parts (static_flag m.flags || some_and (λ n. nat_le (n + 1) 255) (slots_of_method m.descriptor)) (is_clinit_name m.name || (has_one_access m.flags && (not (interface_flag c.flags) || (public_flag m.flags || private_flag m.flags)))) v in
    rw n at a.1

-- a method of an interface that is not private is public
pub method_public : (c : ClassFacts) (m : Member) → interface_flag c.flags ≡ true → is_clinit_name m.name ≡ false → method_fits c m ≡ true → private_flag m.flags ≡ false → public_flag m.flags ≡ true
method_public c m i n v p =
    let g = and_parts (has_one_access m.flags) (not (interface_flag c.flags) || (public_flag m.flags || private_flag m.flags)) (method_flags c m n v) in
    interface_access (interface_flag c.flags) (private_flag m.flags) (public_flag m.flags) g.1 i p

-- a public member is not protected too
pub one_access : (p r : Bool) → not (p && r) ≡ true → p ≡ true → r ≡ false
one_access true false h e = refl
one_access true true h e = absurd (cc)
one_access false r h e = absurd (cc)

pub method_one_access : (c : ClassFacts) (m : Member) → is_clinit_name m.name ≡ false → method_fits c m ≡ true → public_flag m.flags ≡ true → protected_flag m.flags ≡ false
method_one_access c m n v p =
    let g = and_parts (has_one_access m.flags) (not (interface_flag c.flags) || (public_flag m.flags || private_flag m.flags)) (method_flags c m n v) in
    one_access (public_flag m.flags) (protected_flag m.flags) g.0 p

abbrev pub IsPublicInstance : DeclaredMember → Type 0
IsPublicInstance m = (public_flag m.member.flags ≡ true) × (static_flag m.member.flags ≡ false) × (protected_flag m.member.flags ≡ false)

abbrev IsValidInterface : ClassFacts → Type 0
IsValidInterface c = (interface_flag c.flags ≡ true) × (list_all (method_fits c) c.methods ≡ true)

inheritable-public : (c : ClassFacts) → IsValidInterface c → (k : Key) → is_clinit_name k.name ≡ false → (o : Option Member) → own_method_of c k ≡ o → EachOf IsPublicInstance (if_inheritable (found_in c o))
unfolding if_inheritable found_in
inheritable-public c v k n None e = tt
inheritable-public c v k n (Some m) e = go (private_flag m.flags || static_flag m.flags) refl
  where
    right_of : (a b : Bool) → (a || b) ≡ false → b ≡ false
    right_of true b h = absurd (cc)
    right_of false b h = h

    name : is_clinit_name m.name ≡ false
    name = let q = and_parts (same m.name k.name) _ (found_passes (is_key k) c.methods m e) in rw (same_is m.name k.name q.0) n

    go : (b : Bool) → (private_flag m.flags || static_flag m.flags) ≡ b → EachOf IsPublicInstance (cond b [] (record { owner = c.name; member = m } ∷ []))
    go true p = tt
    go false p =
        let valid : method_fits c m ≡ true = found_all (is_key k) (method_fits c) c.methods m e v.1 in
        let public : public_flag m.flags ≡ true = method_public c m v.0 name valid (neither_first (private_flag m.flags) (static_flag m.flags) p) in
        ((public, right_of (private_flag m.flags) (static_flag m.flags) p, method_one_access c m name valid public), tt)

declared_by-public : (k : Key) → is_clinit_name k.name ≡ false → (cs : List ClassFacts) → EachOf IsValidInterface cs → EachOf IsPublicInstance (declared_by k cs)
unfolding declared_by
declared_by-public k n [] h = tt
declared_by-public k n (c ∷ cs) h =
    EachOf-append IsPublicInstance (if_inheritable (found_in c (own_method_of c k))) (declared_by k cs) (inheritable-public c h.0 k n (own_method_of c k) refl) (declared_by-public k n cs h.1)

pub only_or-each : (P : DeclaredMember → Type 0) (ms all : List DeclaredMember) → EachOf P ms → EachOf P all → EachOf P (only_or ms all)
unfolding only_or
only_or-each P [] all h k = k
only_or-each P (m ∷ ms) all h k = go (list_all (λ o. same o.owner m.owner) ms)
  where
    go : (b : Bool) → EachOf P (cond b (m ∷ []) all)
    go true = (h.0, tt)
    go false = k

-- of a class that loads in a world of valid records
pub superinterface_choices-public : (W : World) → ((x : Bytes) (c : ClassFacts) → find_class W x ≡ Some c → IsValidClass c) → (x : Bytes) (k : Key) → load_fault W x ≡ None → is_clinit_name k.name ≡ false
    → EachOf IsPublicInstance (superinterface_choices W x k)
unfolding superinterface_choices
superinterface_choices-public W valid x k h n =
    let all : List DeclaredMember = declared_by k (superinterfaces W x) in
    let p : EachOf IsPublicInstance all = declared_by-public k n (superinterfaces W x) (superinterfaces-each W IsValidInterface (λ y c e l i. (i, (fit_of c (valid y c e)).methods)) x h) in
    only_or-each IsPublicInstance (filter is_concrete (filter (is_maximal W all) all)) all (filter-each IsPublicInstance is_concrete (filter (is_maximal W all) all) (filter-each IsPublicInstance (is_maximal W all) all p)) p
