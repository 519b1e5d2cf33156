-- Whether some superinterface offers a method of a key, and what the steps on superinterfaces then find.
use Rattle.std.proofs.Common.{◌≡◌, Bool, true, false, cond, List, [], ◌∷◌, ◌++◌, refl, sym, ◌∙◌, ap, Option, Some, None, not, ◌||◌, ◌&&◌, ◌⊎◌, inl, inr}
use Rattle.std.proofs.lemmas.Bool.{and_parts, or_cases}
use Rattle.std.specs.List.{list_any, list_all, filter}
use Rattle.jc_facts.specs.declared.class_facts.ClassFacts.{ClassFacts}
use Rattle.jc_facts.specs.declared.class_facts.Member.{Member}
use Rattle.jc_facts.specs.declared.key.Key.{Key}
use Rattle.jc_facts.specs.Names.{Bytes, same, object_name}
use Rattle.jc_facts.specs.Flags.{private_flag, static_flag, no_static_flag}
use Rattle.jc_facts.specs.world.World.{World, find_class, DeclaredMember, found_in, own_method_of}
use Rattle.jc_facts.specs.world.Hierarchy.{chain, of_super, each, with_interfaces, interfaces_of, superinterfaces}
use Rattle.jc_facts.specs.world.Loading.{load_fault}
use Rattle.jc_facts.specs.world.Lookup.{if_inheritable, declared_by, only_or, is_maximal, is_concrete, superinterface_choices}
use Rattle.jc_facts.specs.world.Inheritance.{offers, inherits, itself_and}
use Rattle.jc_lemmas.proofs.Listed.{EachOf}
use Rattle.jc_worlds.proofs.Bare.{bare_chain}
use Rattle.jc_worlds.proofs.Unrolled.{with_interfaces-unroll, superinterfaces-unroll}
use Rattle.jc_lemmas.proofs.Lists.{any_left, any_right, any_cases, filter-cons, IsCons, cons_right}
use Rattle.std.proofs.lemmas.List.{append-nil, append_assoc}

-- one that offers the method declares it
pub declared_by-some : (k : Key) (cs : List ClassFacts) → list_any (offers k) cs ≡ true → IsCons (declared_by k cs)
unfolding declared_by if_inheritable found_in
declared_by-some k [] h = absurd (cc)
declared_by-some k (c ∷ cs) h = go (own_method_of c k) (or_cases (offers k c) (list_any (offers k) cs) h) (declared_by-some k cs)
  where
    rest : (o : Option Member) → IsCons (declared_by k cs) → IsCons (if_inheritable (found_in c o) ++ declared_by k cs)
    rest o r = cons_right (if_inheritable (found_in c o)) (declared_by k cs) r

    here : (p s : Bool) (m : DeclaredMember) → (not s && not p) ≡ true → IsCons (cond (p || s) [] (m ∷ []) ++ declared_by k cs)
    here false false m q = record { head = m; tail = declared_by k cs; is = refl }
    here true s m q = absurd (let z = and_parts (not s) false q in let w : false ≡ true = z.1 in cc)
    here false true m q = absurd (cc)

    at : (o : Option Member) → own_method_of c k ≡ o → offers k c ≡ true → IsCons (if_inheritable (found_in c o) ++ declared_by k cs)
    at None e q = absurd (let z : offers k c ≡ false = rw e refl in let w : true ≡ false = sym q ∙ z in cc)
    at (Some m) e q =
        let z : (no_static_flag m.flags && not (private_flag m.flags)) ≡ true = rw e at q in
        here (private_flag m.flags) (static_flag m.flags) (record { owner = c.name; member = m }) z

    go : (o : Option Member) → (offers k c ≡ true) ⊎ (list_any (offers k) cs ≡ true) → (list_any (offers k) cs ≡ true → IsCons (declared_by k cs)) → IsCons (if_inheritable (found_in c (own_method_of c k)) ++ declared_by k cs)
    go o (inl q) r = at (own_method_of c k) refl q
    go o (inr q) r = rest (own_method_of c k) (r q)

-- and the other way round
pub declared_by-offers : (k : Key) (cs : List ClassFacts) → IsCons (declared_by k cs) → list_any (offers k) cs ≡ true
unfolding declared_by if_inheritable found_in
declared_by-offers k [] h = absurd (let e : [] ≡ h.head ∷ h.tail = h.is in cc)
declared_by-offers k (c ∷ cs) h = go (own_method_of c k) refl h (declared_by-offers k cs)
  where
    right : offers k c ≡ false → list_any (offers k) cs ≡ true → (offers k c || list_any (offers k) cs) ≡ true
    right e q = rw e q

    made : (p s : Bool) (m : DeclaredMember) → IsCons (cond (p || s) [] (m ∷ []) ++ declared_by k cs) → ((not s && not p) ≡ true) ⊎ (IsCons (declared_by k cs))
    made false false m q = inl refl
    made true s m q = inr q
    made false true m q = inr q

    either : (m : Member) → own_method_of c k ≡ Some m → ((no_static_flag m.flags && not (private_flag m.flags)) ≡ true) ⊎ IsCons (declared_by k cs) → (IsCons (declared_by k cs) → list_any (offers k) cs ≡ true) → (offers k c || list_any (offers k) cs) ≡ true
    either m e (inl q) r = let z : offers k c ≡ true = rw e q in rw z refl
    either m e (inr q) r = last (offers k c) (r q)
      where
        last : (b : Bool) → list_any (offers k) cs ≡ true → (b || list_any (offers k) cs) ≡ true
        last true z = refl
        last false z = z

    go : (o : Option Member) → own_method_of c k ≡ o → IsCons (if_inheritable (found_in c o) ++ declared_by k cs) → (IsCons (declared_by k cs) → list_any (offers k) cs ≡ true) → (offers k c || list_any (offers k) cs) ≡ true
    go None e q r = right (rw e refl) (r q)
    go (Some m) e q r = either m e (made (private_flag m.flags) (static_flag m.flags) (record { owner = c.name; member = m }) q) r

only_or-some : (ms all : List DeclaredMember) → IsCons all → IsCons (only_or ms all)
unfolding only_or
only_or-some [] all c = c
only_or-some (m ∷ ms) all c = go (list_all (λ o. same o.owner m.owner) ms)
  where
    go : (b : Bool) → IsCons (cond b (m ∷ []) all)
    go true = record { head = m; tail = []; is = refl }
    go false = c

only_or-back : (ms all : List DeclaredMember) → (IsCons ms → IsCons all) → IsCons (only_or ms all) → IsCons all
unfolding only_or
only_or-back [] all f c = c
only_or-back (m ∷ ms) all f c = f (record { head = m; tail = ms; is = refl })

pub choices-some : (W : World) (x : Bytes) (k : Key) → list_any (offers k) (superinterfaces W x) ≡ true → IsCons (superinterface_choices W x k)
unfolding superinterface_choices
choices-some W x k h =
    let all : List DeclaredMember = declared_by k (superinterfaces W x) in
    only_or-some (filter is_concrete (filter (is_maximal W all) all)) all (declared_by-some k (superinterfaces W x) h)

pub choices-offers : (W : World) (x : Bytes) (k : Key) → IsCons (superinterface_choices W x k) → list_any (offers k) (superinterfaces W x) ≡ true
unfolding superinterface_choices
choices-offers W x k c =
    let all : List DeclaredMember = declared_by k (superinterfaces W x) in
    declared_by-offers k (superinterfaces W x) (only_or-back (filter is_concrete (filter (is_maximal W all) all)) all (λ q. filter-cons (is_maximal W all) all (filter-cons is_concrete (filter (is_maximal W all) all) q)) c)

pub interfaces_of-map : (test : ClassFacts → Bool) (V W : World) (cs : List ClassFacts) → EachOf (λ c. list_any test (each (with_interfaces V) c.interfaces) ≡ true → list_any test (each (with_interfaces W) c.interfaces) ≡ true) cs
    → list_any test (interfaces_of V cs) ≡ true → list_any test (interfaces_of W cs) ≡ true
unfolding interfaces_of
interfaces_of-map test V W [] h e = e
interfaces_of-map test V W (c ∷ cs) h e = go (any_cases test (each (with_interfaces V) c.interfaces) (interfaces_of V cs) e) (interfaces_of-map test V W cs h.1)
  where
    go : (list_any test (each (with_interfaces V) c.interfaces) ≡ true) ⊎ (list_any test (interfaces_of V cs) ≡ true) → (list_any test (interfaces_of V cs) ≡ true → list_any test (interfaces_of W cs) ≡ true) → list_any test (each (with_interfaces W) c.interfaces ++ interfaces_of W cs) ≡ true
    go (inl q) r = any_left test (each (with_interfaces W) c.interfaces) (interfaces_of W cs) (h.0 q)
    go (inr q) r = any_right test (each (with_interfaces W) c.interfaces) (interfaces_of W cs) (r q)

pub interfaces_of-append : (W : World) (cs ds : List ClassFacts) → interfaces_of W (cs ++ ds) ≡ interfaces_of W cs ++ interfaces_of W ds
unfolding interfaces_of
interfaces_of-append W [] ds = refl
interfaces_of-append W (c ∷ cs) ds = ap (λ r. each (with_interfaces W) c.interfaces ++ r) (interfaces_of-append W cs ds) ∙ sym (append_assoc (each (with_interfaces W) c.interfaces) (interfaces_of W cs) (interfaces_of W ds))

-- of an interface, whose superclass names nothing
pub superinterfaces-interface : (W : World) (root : ClassFacts) → find_class W object_name ≡ Some root → root.superclass ≡ None → root.interfaces ≡ []
    → (s : Bytes) (e : ClassFacts) → find_class W s ≡ Some e → load_fault W s ≡ None → e.superclass ≡ Some object_name → superinterfaces W s ≡ each (with_interfaces W) e.interfaces
unfolding interfaces_of each
superinterfaces-interface W root fr rs ri s e fs hs q =
    superinterfaces-unroll W s e fs hs
    ∙ ap (λ o. each (with_interfaces W) e.interfaces ++ interfaces_of W (of_super (chain W) o)) q
    ∙ ap (λ cs. each (with_interfaces W) e.interfaces ++ interfaces_of W cs) (bare_chain W object_name root fr rs ri)
    ∙ ap (λ cs. each (with_interfaces W) e.interfaces ++ cs) empty ∙ append-nil (each (with_interfaces W) e.interfaces)
  where
    empty : interfaces_of W (root ∷ []) ≡ []
    empty = rw ri refl

pub inherits-with : (W : World) (root : ClassFacts) → find_class W object_name ≡ Some root → root.superclass ≡ None → root.interfaces ≡ []
    → (s : Bytes) (e : ClassFacts) (k : Key) → find_class W s ≡ Some e → load_fault W s ≡ None → e.superclass ≡ Some object_name → inherits W s k ≡ list_any (offers k) (with_interfaces W s)
unfolding inherits
inherits-with W root fr rs ri s e k fs hs q =
    ap (λ o. list_any (offers k) (itself_and (superinterfaces W s) o)) fs ∙ ap (λ cs. list_any (offers k) (e ∷ cs)) (superinterfaces-interface W root fr rs ri s e fs hs q) ∙ ap (list_any (offers k)) (sym (with_interfaces-unroll W s e fs hs))
