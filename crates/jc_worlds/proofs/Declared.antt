-- What a lookup of methods finds, its owner declares.
use Rattle.std.proofs.Common.{◌≡◌, Bool, true, false, cond, List, [], ◌∷◌, refl, ◌∙◌, ap, subst, Option, Some, None, ◌||◌}
use Rattle.std.specs.List.{filter}
use Rattle.jc_facts.specs.declared.class_facts.ClassFacts.{ClassFacts}
use Rattle.jc_facts.specs.declared.class_facts.Member.{Member}
use Rattle.jc_facts.specs.declared.key.Key.{Key}
use Rattle.jc_facts.specs.Names.{Bytes}
use Rattle.jc_facts.specs.Flags.{private_flag, static_flag}
use Rattle.jc_facts.specs.world.World.{World, find_class, DeclaredMember, own_method_of, found_in}
use Rattle.jc_facts.specs.Options.{or_else}
use Rattle.jc_facts.specs.world.Hierarchy.{chain, superinterfaces}
use Rattle.jc_facts.specs.world.Loading.{load_fault}
use Rattle.jc_facts.specs.world.Lookup.{first_declared, if_inheritable, declared_by, is_maximal, is_concrete, superinterface_choices, or_choices, method_choices}
use Rattle.jc_lemmas.proofs.Listed.{EachOf, EachOf-append, filter-each}
use Rattle.jc_facts.proofs.World.{find-name, IsOf}
use Rattle.jc_worlds.proofs.Above.{chain-each, superinterfaces-each}
use Rattle.jc_worlds.proofs.Inherited.{only_or-each}

pub record IsDeclared (W : World) (k : Key) (m : DeclaredMember) : Type 0 where
  pub class : ClassFacts
  pub is_there : find_class W m.owner ≡ Some class
  pub declares : own_method_of class k ≡ Some m.member

pub own-declared : (W : World) (k : Key) (c : ClassFacts) (m : DeclaredMember) → IsOf W c → (o : Option Member) → own_method_of c k ≡ o → found_in c o ≡ Some m → IsDeclared W k m
unfolding found_in
own-declared W k c m i None e f = absurd (cc)
own-declared W k c m i (Some n) e f =
    let r : DeclaredMember = record { owner = c.name; member = n } in
    let p : r ≡ m = cc in
    subst (IsDeclared W k) p (record { class = c; is_there = i; declares = e })

pub first_declared-declared : (W : World) (k : Key) (m : DeclaredMember) (cs : List ClassFacts) → EachOf (IsOf W) cs → first_declared k cs ≡ Some m → IsDeclared W k m
unfolding first_declared or_else
first_declared-declared W k m [] h e = absurd (cc)
first_declared-declared W k m (c ∷ cs) h e = go (found_in c (own_method_of c k)) refl e (first_declared-declared W k m cs h.1)
  where
    go : (o : Option DeclaredMember) → found_in c (own_method_of c k) ≡ o → or_else o (first_declared k cs) ≡ Some m → (first_declared k cs ≡ Some m → IsDeclared W k m) → IsDeclared W k m
    go None p q r = r q
    go (Some n) p q r = own-declared W k c m h.0 (own_method_of c k) refl (p ∙ q)

inheritable-declared : (W : World) (k : Key) (c : ClassFacts) → IsOf W c → (o : Option Member) → own_method_of c k ≡ o → EachOf (IsDeclared W k) (if_inheritable (found_in c o))
unfolding if_inheritable found_in
inheritable-declared W k c i None e = tt
inheritable-declared W k c i (Some m) e = go (private_flag m.flags || static_flag m.flags)
  where
    go : (b : Bool) → EachOf (IsDeclared W k) (cond b [] (record { owner = c.name; member = m } ∷ []))
    go true = tt
    go false = (record { class = c; is_there = i; declares = e }, tt)

declared_by-declared : (W : World) (k : Key) (cs : List ClassFacts) → EachOf (IsOf W) cs → EachOf (IsDeclared W k) (declared_by k cs)
unfolding declared_by
declared_by-declared W k [] h = tt
declared_by-declared W k (c ∷ cs) h =
    EachOf-append (IsDeclared W k) (if_inheritable (found_in c (own_method_of c k))) (declared_by k cs) (inheritable-declared W k c h.0 (own_method_of c k) refl) (declared_by-declared W k cs h.1)

pub superinterface_choices-declared : (W : World) (x : Bytes) (k : Key) → load_fault W x ≡ None → EachOf (IsDeclared W k) (superinterface_choices W x k)
unfolding superinterface_choices
superinterface_choices-declared W x k h =
    let all : List DeclaredMember = declared_by k (superinterfaces W x) in
    let p : EachOf (IsDeclared W k) all = declared_by-declared W k (superinterfaces W x) (superinterfaces-each W (IsOf W) (λ y c e l i. ap (find_class W) (find-name W y c e) ∙ e) x h) in
    only_or-each (IsDeclared W k) (filter is_concrete (filter (is_maximal W all) all)) all
    (filter-each (IsDeclared W k) is_concrete (filter (is_maximal W all) all) (filter-each (IsDeclared W k) (is_maximal W all) all p)) p

pub method_choices-declared : (W : World) (x : Bytes) (k : Key) → load_fault W x ≡ None → EachOf (IsDeclared W k) (method_choices W x k)
unfolding method_choices or_choices
method_choices-declared W x k h = go (first_declared k (chain W x)) refl
  where
    go : (o : Option DeclaredMember) → first_declared k (chain W x) ≡ o → EachOf (IsDeclared W k) (or_choices o (superinterface_choices W x k))
    go None e = superinterface_choices-declared W x k h
    go (Some m) e = (first_declared-declared W k m (chain W x) (chain-each W (IsOf W) (λ y c f l. ap (find_class W) (find-name W y c f) ∙ f) x h) e, tt)
