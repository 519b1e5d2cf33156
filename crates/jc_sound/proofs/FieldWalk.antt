-- What the lookup of a field from a client finds with two releases: the walk over the clients above it.
use Rattle.std.proofs.Common.{◌≡◌, ℕ, zero, suc, List, [], ◌∷◌, refl, Option, Some, None}
use Rattle.jc_facts.specs.declared.class_facts.ClassFacts.{ClassFacts}
use Rattle.jc_facts.specs.declared.key.Key.{Key}
use Rattle.jc_facts.specs.Names.{Bytes}
use Rattle.jc_facts.specs.world.World.{class_named, DeclaredMember, own_field_of, found_in}
use Rattle.jc_facts.specs.world.Search.{supers, supers_of}
use Rattle.jc_facts.specs.Options.{or_else, first_some, and_then}
use Rattle.jc_facts.specs.world.Lookup.{field_step}
use Rattle.jc_lemmas.proofs.Listed.{EachOf, EachOf-map, EachOf-both}
use Rattle.jc_worlds.proofs.Locality.{of_interfaces}
use Rattle.jc_worlds.specs.Walks.{over_clients}

-- what an interface gives with both releases: nothing, or fields that agree, or the new release has gained the field, which then passes P
pub data Strong (G : Type 0) (F : DeclaredMember → DeclaredMember → Type 0) (P : DeclaredMember → Type 0) : Option DeclaredMember → Option DeclaredMember → Type 0 where
  neither : Strong G F P None None
  agree : {m m' : DeclaredMember} → F m m' → Strong G F P (Some m) (Some m')
  gained : {o : Option DeclaredMember} {m' : DeclaredMember} → G → P m' → Strong G F P o (Some m')

-- what a class gives: where it gave nothing it may give anything, and what passes B was of no use
pub data Weak (G : Type 0) (F : DeclaredMember → DeclaredMember → Type 0) (P B : DeclaredMember → Type 0) : Option DeclaredMember → Option DeclaredMember → Type 0 where
  nothing : {n : Option DeclaredMember} → Weak G F P B None n
  agree : {m m' : DeclaredMember} → F m m' → Weak G F P B (Some m) (Some m')
  gained : {o : Option DeclaredMember} {m' : DeclaredMember} → G → P m' → Weak G F P B o (Some m')
  useless : {m : DeclaredMember} {n : Option DeclaredMember} → B m → Weak G F P B (Some m) n

module _ (G : Type 0) (F : DeclaredMember → DeclaredMember → Type 0) (P B : DeclaredMember → Type 0) where
  strong-or : {a a' b b' : Option DeclaredMember} → Strong G F P a a' → Strong G F P b b' → Strong G F P (or_else a b) (or_else a' b')
  unfolding or_else
  strong-or neither s = s
  strong-or (agree f) s = agree f
  strong-or (gained g p) s = gained g p

  weak-or : {a a' b b' : Option DeclaredMember} → Strong G F P a a' → Weak G F P B b b' → Weak G F P B (or_else a b) (or_else a' b')
  unfolding or_else
  weak-or neither w = w
  weak-or (agree f) w = agree f
  weak-or (gained g p) w = gained g p

  strong-first : (f g : Bytes → Option DeclaredMember) (xs : List Bytes) → EachOf (λ y. Strong G F P (f y) (g y)) xs → Strong G F P (first_some f xs) (first_some g xs)
  unfolding first_some
  strong-first f g [] h = neither
  strong-first f g (x ∷ xs) h = strong-or h.0 (strong-first f g xs h.1)

  strong-same : (o : Option DeclaredMember) → ((m : DeclaredMember) → o ≡ Some m → F m m) → Strong G F P o o
  strong-same None r = neither
  strong-same (Some m) r = agree (r m refl)

  weak_then : (f g : Bytes → Option DeclaredMember) (s : Option Bytes) (is : List Bytes) → EachOf (λ y. Weak G F P B (f y) (g y)) (supers_of s is) → Weak G F P B (and_then f s) (and_then g s)
  unfolding and_then
  weak_then f g None is h = nothing
  weak_then f g (Some y) is h = h.0

  module _ (cs : List ClassFacts) (k : Key) (old new : Bytes → Option DeclaredMember)
      -- the names above some client, and those among them that are named as interfaces
      (Up Interface : Bytes → Type 0)
      -- a client's own field
      (own : (y : Bytes) (c : ClassFacts) → Up y → class_named cs y ≡ Some c → (m : DeclaredMember) → found_in c (own_field_of c k) ≡ Some m → F m m)
      (up : (y : Bytes) (c : ClassFacts) → Up y → class_named cs y ≡ Some c → EachOf Up (supers c))
      (interfaces : (y : Bytes) (c : ClassFacts) → Up y → class_named cs y ≡ Some c → EachOf Interface c.interfaces)
      -- a client that is named as an interface is one, and its superclass, java/lang/Object, has no fields
      (rootless : (y : Bytes) (c : ClassFacts) → Interface y → class_named cs y ≡ Some c → (n : ℕ) → (and_then (over_clients cs old (field_step k) n) c.superclass ≡ None) × (and_then (over_clients cs new (field_step k) n) c.superclass ≡ None))
      -- what library classes give
      (leaf_interface : (y : Bytes) → Up y → Interface y → Strong G F P (old y) (new y))
      (leaf_class : (y : Bytes) → Up y → Weak G F P B (old y) (new y)) where
    strong_walk : (n : ℕ) (y : Bytes) → Up y → Interface y → Strong G F P (over_clients cs old (field_step k) n y) (over_clients cs new (field_step k) n y)
    unfolding over_clients field_step or_else
    strong_walk zero y u i = leaf_interface y u i
    strong_walk (suc n) y u i = go (class_named cs y) refl (strong_walk n)
      where
        at : (Bytes → Option DeclaredMember) → (Bytes → Option DeclaredMember) → Option ClassFacts → Option DeclaredMember
        at l f o = elim o [ None ↦ l y | Some c ↦ field_step k f c ]

        none-right : {a a' : Option DeclaredMember} → Strong G F P a a' → Strong G F P (or_else a None) (or_else a' None)
        none-right s = strong-or s neither

        go : (o : Option ClassFacts) → class_named cs y ≡ o
            → ((z : Bytes) → Up z → Interface z → Strong G F P (over_clients cs old (field_step k) n z) (over_clients cs new (field_step k) n z))
            → Strong G F P (at old (over_clients cs old (field_step k) n) o) (at new (over_clients cs new (field_step k) n) o)
        go None e r = leaf_interface y u i
        go (Some c) e r =
            let q = rootless y c i e n in
            let s = strong-first (over_clients cs old (field_step k) n) (over_clients cs new (field_step k) n) c.interfaces
            (EachOf-both r c.interfaces (of_interfaces Up c.superclass c.interfaces (up y c u e)) (interfaces y c u e)) in
            rw (q.0, q.1) (strong-or (strong-same (found_in c (own_field_of c k)) (own y c u e)) (none-right s))

    pub weak_walk : (n : ℕ) (y : Bytes) → Up y → Weak G F P B (over_clients cs old (field_step k) n y) (over_clients cs new (field_step k) n y)
    unfolding over_clients field_step
    weak_walk zero y u = leaf_class y u
    weak_walk (suc n) y u = go (class_named cs y) refl (weak_walk n)
      where
        at : (Bytes → Option DeclaredMember) → (Bytes → Option DeclaredMember) → Option ClassFacts → Option DeclaredMember
        at l f o = elim o [ None ↦ l y | Some c ↦ field_step k f c ]

        go : (o : Option ClassFacts) → class_named cs y ≡ o
            → ((z : Bytes) → Up z → Weak G F P B (over_clients cs old (field_step k) n z) (over_clients cs new (field_step k) n z))
            → Weak G F P B (at old (over_clients cs old (field_step k) n) o) (at new (over_clients cs new (field_step k) n) o)
        go None e r = leaf_class y u
        go (Some c) e r =
            let us = up y c u e in
            let s = strong-first (over_clients cs old (field_step k) n) (over_clients cs new (field_step k) n) c.interfaces
            (EachOf-both (strong_walk n) c.interfaces (of_interfaces Up c.superclass c.interfaces us) (interfaces y c u e)) in
            weak-or (strong-same (found_in c (own_field_of c k)) (own y c u e))
            (weak-or s (weak_then (over_clients cs old (field_step k) n) (over_clients cs new (field_step k) n) c.superclass c.interfaces (EachOf-map r (supers c) us)))
