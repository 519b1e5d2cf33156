-- Where nothing is found from what a class names above itself, its superinterfaces give nothing.
use Rattle.std.proofs.Common.{◌≡◌, Bool, true, false, List, [], ◌∷◌, ◌++◌, refl, sym, ◌∙◌, ap, Option, Some, None}
use Rattle.std.specs.Prelude.{cond}
use Rattle.std.specs.List.{filter, list_all}
use Rattle.std.proofs.lemmas.List.{append_assoc}
use Rattle.jc_facts.specs.declared.class_facts.ClassFacts.{ClassFacts}
use Rattle.jc_facts.specs.declared.key.Key.{Key}
use Rattle.jc_facts.specs.Names.{Bytes, same}
use Rattle.jc_facts.specs.Options.{or_else, and_then}
use Rattle.jc_facts.specs.world.Assignment.{is_interface_of}
use Rattle.jc_facts.specs.world.Search.{supers, supers_of}
use Rattle.jc_facts.specs.world.World.{World, find_class, own_method_of, declared_method, DeclaredMember, found_in}
use Rattle.jc_facts.specs.world.Hierarchy.{chain, of_super, each, with_interfaces, interfaces_of, superinterfaces}
use Rattle.jc_facts.specs.world.Loading.{load_fault}
use Rattle.jc_facts.specs.world.Lookup.{declared_by, if_inheritable, is_maximal, is_concrete, only_or, superinterface_choices, public_method_of_object, or_choices}
use Rattle.jc_lemmas.proofs.Listed.{EachOf}
use Rattle.jc_worlds.proofs.Loaded.{loads-found}
use Rattle.jc_worlds.proofs.Locality.{of_interfaces}
use Rattle.jc_worlds.proofs.Unrolled.{with_interfaces-unroll, superinterfaces-unroll}
use Rattle.jc_index.proofs.Strictly.{named_good}
use Rattle.jc_rows.specs.Rows.{lookup_choices}
use Rattle.jc_rows.specs.steps.Fronts.{front_by, front_method}
use Rattle.jc_rows.proofs.Settling.{by_front}

-- ---- empty lists

both_empty : {A : Type 0} (xs ys : List A) → xs ++ ys ≡ [] → (xs ≡ []) × (ys ≡ [])
both_empty [] ys e = (refl, e)
both_empty (x ∷ xs) ys e = absurd (let c : x ∷ (xs ++ ys) ≡ [] = e in cc)

join_empty : {A : Type 0} (xs ys : List A) → xs ≡ [] → ys ≡ [] → xs ++ ys ≡ []
join_empty xs ys e f = rw (e, f) refl

pub declared-append : (k : Key) (xs ys : List ClassFacts) → declared_by k (xs ++ ys) ≡ declared_by k xs ++ declared_by k ys
unfolding declared_by
declared-append k [] ys = refl
declared-append k (x ∷ xs) ys = ap (λ (ms : List DeclaredMember). if_inheritable (found_in x (own_method_of x k)) ++ ms) (declared-append k xs ys) ∙ sym (append_assoc (if_inheritable (found_in x (own_method_of x k))) (declared_by k xs) (declared_by k ys))

-- ---- nothing to choose from

some_of : (ms all : List DeclaredMember) → only_or ms all ≡ [] → all ≡ []
unfolding only_or
some_of [] all e = e
some_of (m ∷ ms) all e = go (list_all (λ o. same o.owner m.owner) ms) e
  where
    go : (b : Bool) → cond b (m ∷ []) all ≡ [] → all ≡ []
    go true e = absurd (let c : m ∷ [] ≡ [] = e in cc)
    go false e = e

first : (o : Option DeclaredMember) (ms : List DeclaredMember) → o ≡ None → or_choices o ms ≡ [] → ms ≡ []
unfolding or_choices
first None ms e h = h
first (Some m) ms e h = absurd (let c : Some m ≡ None = e in cc)

second : (o : Option DeclaredMember) (ms : List DeclaredMember) (m : DeclaredMember) → o ≡ Some m → or_choices o ms ≡ [] → ⊥
unfolding or_choices
second None ms m e h = let c : None ≡ Some m = e in cc
second (Some n) ms m e h = let c : n ∷ [] ≡ [] = h in cc

inheritable_none : if_inheritable None ≡ []
unfolding if_inheritable
inheritable_none = refl

clash : (m : DeclaredMember) (o : Option DeclaredMember) → or_else (Some m) o ≡ None → ⊥
unfolding or_else
clash m o h = let c : Some m ≡ None = h in cc

pub own_none : (W : World) (k : Key) (i : Bytes) (c : ClassFacts) → find_class W i ≡ Some c → front_by true W i k ≡ None → found_in c (own_method_of c k) ≡ None
unfolding and_then
own_none W k i c f e = go (found_in c (own_method_of c k)) (ap (λ (o : Option ClassFacts). or_else (and_then (declared_method k) o) (public_method_of_object W k)) (sym f) ∙ e)
  where
    go : (o : Option DeclaredMember) → or_else o (public_method_of_object W k) ≡ None → o ≡ None
    go None h = refl
    go (Some m) h = absurd (clash m (public_method_of_object W k) h)

module _ (W : World) (k : Key) where
  pub none_declared : (y : Bytes) → superinterface_choices W y k ≡ [] → declared_by k (superinterfaces W y) ≡ []
  unfolding superinterface_choices
  none_declared y e = some_of (filter is_concrete (filter (is_maximal W (declared_by k (superinterfaces W y))) (declared_by k (superinterfaces W y)))) (declared_by k (superinterfaces W y)) e

  pub none_chosen : (y : Bytes) → declared_by k (superinterfaces W y) ≡ [] → superinterface_choices W y k ≡ []
  unfolding superinterface_choices only_or
  none_chosen y e = rw e refl

  -- where nothing is found, neither part finds anything
  pub parts : (y : Bytes) → lookup_choices W y k ≡ [] → (front_method W y k ≡ None) × (superinterface_choices W y k ≡ [])
  parts y e = go (front_method W y k) refl (sym (by_front W y k) ∙ e)
    where
      go : (o : Option DeclaredMember) → front_method W y k ≡ o → or_choices (front_method W y k) (superinterface_choices W y k) ≡ [] → (front_method W y k ≡ None) × (superinterface_choices W y k ≡ [])
      go None f h = (f, first (front_method W y k) (superinterface_choices W y k) f h)
      go (Some m) f h = absurd (second (front_method W y k) (superinterface_choices W y k) m f h)

  -- an interface from which nothing is found leads to no method
  pub none_below : (i : Bytes) → load_fault W i ≡ None → is_interface_of W i ≡ true → lookup_choices W i k ≡ [] → declared_by k (with_interfaces W i) ≡ []
  unfolding declared_by
  none_below i l q e =
      let t = loads-found W i l in
      let p = parts i e in
      let own : found_in t.0 (own_method_of t.0 k) ≡ None = own_none W k i t.0 t.1 (ap (λ (b : Bool). front_by b W i k) (sym q) ∙ p.0) in
      let all : declared_by k (each (with_interfaces W) t.0.interfaces) ++ declared_by k (interfaces_of W (of_super (chain W) t.0.superclass)) ≡ [] =
      sym (declared-append k (each (with_interfaces W) t.0.interfaces) (interfaces_of W (of_super (chain W) t.0.superclass)))
      ∙ sym (ap (declared_by k) (superinterfaces-unroll W i t.0 t.1 l)) ∙ none_declared i p.1
      in
      ap (declared_by k) (with_interfaces-unroll W i t.0 t.1 l)
      ∙ join_empty (if_inheritable (found_in t.0 (own_method_of t.0 k))) (declared_by k (each (with_interfaces W) t.0.interfaces)) (inherits (found_in t.0 (own_method_of t.0 k)) own)
      (both_empty (declared_by k (each (with_interfaces W) t.0.interfaces)) (declared_by k (interfaces_of W (of_super (chain W) t.0.superclass))) all).0
    where
      inherits : (o : Option DeclaredMember) → o ≡ None → if_inheritable o ≡ []
      inherits o e = ap if_inheritable e ∙ inheritable_none

  none_each : (xs : List Bytes) → EachOf (λ z. (load_fault W z ≡ None) × (is_interface_of W z ≡ true)) xs → EachOf (λ z. lookup_choices W z k ≡ []) xs → declared_by k (each (with_interfaces W) xs) ≡ []
  unfolding each declared_by
  none_each [] l e = refl
  none_each (x ∷ xs) l e = declared-append k (with_interfaces W x) (each (with_interfaces W) xs) ∙ join_empty (declared_by k (with_interfaces W x)) (declared_by k (each (with_interfaces W) xs)) (none_below x l.0.0 l.0.1 e.0) (none_each xs l.1 e.1)

  none_above : (s : Option Bytes) (is : List Bytes) → EachOf (λ z. lookup_choices W z k ≡ []) (supers_of s is) → declared_by k (interfaces_of W (of_super (chain W) s)) ≡ []
  unfolding interfaces_of declared_by superinterfaces
  none_above None is e = refl
  none_above (Some s) is e = none_declared s (parts s e.0).1

  -- where nothing is found from what a class names above itself, its superinterfaces give nothing
  pub none_given : (y : Bytes) (c : ClassFacts) → find_class W y ≡ Some c → load_fault W y ≡ None → EachOf (λ z. lookup_choices W z k ≡ []) (supers c) → superinterface_choices W y k ≡ []
  none_given y c f h e = none_chosen y (
      ap (declared_by k) (superinterfaces-unroll W y c f h)
      ∙ declared-append k (each (with_interfaces W) c.interfaces) (interfaces_of W (of_super (chain W) c.superclass))
      ∙ join_empty (declared_by k (each (with_interfaces W) c.interfaces)) (declared_by k (interfaces_of W (of_super (chain W) c.superclass)))
      (none_each c.interfaces (named_good W y c f h) (of_interfaces (λ z. lookup_choices W z k ≡ []) c.superclass c.interfaces e)) (none_above c.superclass c.interfaces e))
