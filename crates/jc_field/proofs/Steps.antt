-- The steps of a field lookup by numbers.
use Rattle.std.proofs.Common.{◌≡◌, ◌<◌, ◌≤◌, ◌+◌, ℕ, suc, Bool, true, false, ◌||◌, List, length, get_or, drop, refl, sym, ◌∙◌, ap, subst, arith, Option, Some, None}
use Rattle.std.specs.Prelude.{is_some}
use Rattle.std.specs.List.{Contains, list_any}
use Rattle.std.proofs.lemmas.List.{drop_more}
use Rattle.std.proofs.lemmas.List.Elements.{All-from_recursion, Contains-get_or}
use Rattle.std.proofs.Math.ListN.{drop_of_length-le}
use Rattle.jc_facts.specs.declared.class_facts.ClassFacts.{ClassFacts}
use Rattle.jc_facts.specs.declared.class_facts.Member.{Member}
use Rattle.jc_facts.specs.declared.key.Key.{Key}
use Rattle.jc_facts.specs.Names.{Bytes}
use Rattle.jc_facts.specs.Options.{or_else, first_some, and_then, some_and}
use Rattle.jc_facts.specs.world.World.{World, find_class, size, own_field_of, DeclaredMember, found_in}
use Rattle.jc_facts.specs.world.Search.{supers_of}
use Rattle.jc_facts.specs.Flags.{interface_flag}
use Rattle.jc_facts.specs.world.Hierarchy.{each, with_interfaces}
use Rattle.jc_facts.specs.world.Loading.{load_fault, fault_at}
use Rattle.jc_facts.specs.world.Lookup.{field_found, field_step}
use Rattle.jc_facts.specs.world.Assignment.{is_interface_of}
use Rattle.jc_lemmas.proofs.Listed.{EachOf, each_in, EachOf-both}
use Rattle.std.proofs.lemmas.Bool.{or_left}
use Rattle.jc_worlds.proofs.Descent.{descend-absent}
use Rattle.jc_worlds.proofs.Loaded.{loaded-parts, loaded-level, loads-parts, loads-found}
use Rattle.jc_worlds.proofs.Locality.{of_interfaces}
use Rattle.jc_worlds.proofs.Unrolled.{with_interfaces-unroll}
use Rattle.jc_facts.proofs.Options.{none_or_else, or_else-assoc, or_else-last}
use Rattle.jc_facts.proofs.World.{find-name}
use Rattle.jc_index.specs.Ids.{name_at, id_of, superclass_of}
use Rattle.jc_index.specs.Above.{AreAbove}
use Rattle.jc_index.specs.Lookups.{IsAnswer}
use Rattle.jc_index.specs.Sides.{IsSide}
use Rattle.jc_index.specs.declared.ids.Found.{Found}
use Rattle.jc_index.proofs.Numbers.{IsClass, class_at, id_of-Some, superclass_is, find-None}
use Rattle.jc_field.specs.steps.Fields.{declares_field, declares_at, own_found, interfaces_found, here_found, AreReady, GivenBy, Gives}
use Rattle.jc_index.proofs.Lookups.{answer_none, answer_or}
use Rattle.jc_index.proofs.Reached.{any_reached}
use Rattle.jc_field.proofs.Declared.{stepped, kinds, interface_has, no_super}

-- ---- the class's own field

pub own-Some : (W : World) (n : ℕ) (k : Key) (c : ClassFacts) (m : Member) → n < size W → Some c ≡ find_class W (name_at W n) → Some m ≡ own_field_of c k
    → IsAnswer W (Some (record { owner = n; flags = m.flags })) (own_found W (name_at W n) k)
unfolding and_then found_in
own-Some W n k c m l f o =
    let is : own_found W (name_at W n) k ≡ Some (record { owner = c.name; member = m }) = ap (and_then (λ d. found_in d (own_field_of d k))) (sym f) ∙ ap (found_in c) (sym o) in
    subst (IsAnswer W (Some (record { owner = n; flags = m.flags }))) (sym is) (record { below = l; owner = sym (find-name W (name_at W n) c (sym f)); flags = refl })

pub own-None : (W : World) (n : ℕ) (k : Key) (c : ClassFacts) → Some c ≡ find_class W (name_at W n) → None ≡ own_field_of c k → IsAnswer W None (own_found W (name_at W n) k)
unfolding and_then found_in
own-None W n k c f o =
    let is : own_found W (name_at W n) k ≡ None = ap (and_then (λ d. found_in d (own_field_of d k))) (sym f) ∙ ap (found_in c) (sym o) in
    subst (IsAnswer W None) (sym is) tt

-- ---- interfaces

pub has-is : (W : World) → IsSide W → (k : Key) (n : ℕ) (ids : List ℕ) → n < size W → is_interface_of W (name_at W n) ≡ true → load_fault W (name_at W n) ≡ None → AreAbove W (name_at W n) ids
    → is_some (field_found W (name_at W n) k) ≡ (declares_at W k n || list_any (declares_at W k) ids)
has-is W s k n ids l i h a =
    let c = class_at W n s.differ l in
    interface_has W s k (name_at W n) h i ∙ ap (list_any (declares_field k)) (with_interfaces-unroll W (name_at W n) c.facts c.found h)
    ∙ ap (λ b. declares_field k c.facts || b) (any_reached W (declares_field k) (name_at W n) c.facts c.found ids a)
    ∙ ap (λ b. b || list_any (declares_at W k) ids) (sym (ap (some_and (declares_field k)) c.found))

no_own : (o : Bool) (b : Bool) → o ≡ false → (o || b) ≡ b
no_own true b e = absurd (let c : true ≡ false = e in cc)
no_own false b e = refl

pub has-here : (W : World) → IsSide W → (k : Key) (n : ℕ) (b : Bool) → n < size W → is_interface_of W (name_at W n) ≡ true → load_fault W (name_at W n) ≡ None → b ≡ declares_at W k n → b ≡ true
    → b ≡ is_some (field_found W (name_at W n) k)
has-here W s k n b l i h e t =
    let c = class_at W n s.differ l in
    t ∙ sym (interface_has W s k (name_at W n) h i ∙ ap (list_any (declares_field k)) (with_interfaces-unroll W (name_at W n) c.facts c.found h)
    ∙ or_left (declares_field k c.facts) (list_any (declares_field k) (each (with_interfaces W) c.facts.interfaces)) (sym (ap (some_and (declares_field k)) c.found) ∙ sym e ∙ t))

pub has-there : (W : World) → IsSide W → (k : Key) (n : ℕ) (ids : List ℕ) (a b : Bool) → n < size W → is_interface_of W (name_at W n) ≡ true → load_fault W (name_at W n) ≡ None → AreAbove W (name_at W n) ids
    → a ≡ declares_at W k n → a ≡ false → b ≡ list_any (declares_at W k) ids → b ≡ is_some (field_found W (name_at W n) k)
has-there W s k n ids a b l i h above e f g =
    g ∙ sym (has-is W s k n ids l i h above ∙ no_own (declares_at W k n) (list_any (declares_at W k) ids) (sym e ∙ f))

-- ---- the interfaces that a class names

pub all_ready : (W : World) → IsSide W → (k : Key) (n : ℕ) (c : ClassFacts) → Some c ≡ find_class W (name_at W n) → load_fault W (name_at W n) ≡ None → AreReady W c.interfaces
all_ready W s k n c f h = All-from_recursion (λ y. (is_interface_of W y ≡ true) × (load_fault W y ≡ None)) c.interfaces
    (EachOf-both (λ y i l. (i, l)) c.interfaces (kinds W s k (name_at W n) c (sym f) h) (of_interfaces (λ y. load_fault W y ≡ None) c.superclass c.interfaces (loads-parts W (name_at W n) c (sym f) h).0))

-- each of them is there
pub ready_there : (W : World) (ys : List Bytes) (at : ℕ) (y : Bytes) → AreReady W ys → at < length ys → y ≡ get_or ys at y → id_of W y ≡ None → ⊥
ready_there W ys at y a l e n =
    let p = a at y l in
    let t = loads-found W y (subst (λ z. load_fault W z ≡ None) (sym e) p.1) in
    let z : Some t.0 ≡ None = sym t.1 ∙ find-None W y n in
    cc

pub ready_at : (W : World) (ys : List Bytes) (at : ℕ) (y : Bytes) (n : ℕ) → AreReady W ys → at < length ys → y ≡ get_or ys at y → Some n ≡ id_of W y → (is_interface_of W (name_at W n) ≡ true) × (load_fault W (name_at W n) ≡ None)
ready_at W ys at y n a l e i = subst (λ z. (is_interface_of W z ≡ true) × (load_fault W z ≡ None)) (e' ∙ sym (id_of-Some W y n (sym i)).1) (a at y l)
  where
    e' : get_or ys at y ≡ y
    e' = sym e

module _ (W : World) (k : Key) where
  gives : Bytes → Option DeclaredMember
  gives y = field_found W y k

  first_at : (ys : List Bytes) (at : ℕ) (y : Bytes) → at < length ys → y ≡ get_or ys at y → first_some gives (drop at ys) ≡ or_else (gives y) (first_some gives (drop (at + 1) ys))
  unfolding first_some
  first_at ys at y l e = ap (first_some gives) (drop_more ys at y l) ∙ ap (λ z. or_else (gives z) (first_some gives (drop (at + 1) ys))) (sym e)

  or_some : (o p : Option DeclaredMember) → is_some o ≡ true → or_else o p ≡ o
  unfolding or_else
  or_some None p h = absurd (let c : false ≡ true = h in cc)
  or_some (Some x) p h = refl

  or_none : (o p : Option DeclaredMember) → is_some o ≡ false → or_else o p ≡ p
  unfolding or_else
  or_none None p h = refl
  or_none (Some x) p h = absurd (let c : true ≡ false = h in cc)

  pub given_here : (ys : List Bytes) (at n : ℕ) (y : Bytes) (b : Bool) → at < length ys → y ≡ get_or ys at y → Some n ≡ id_of W y → first_some (λ i. field_found W i k) ys ≡ first_some (λ i. field_found W i k) (drop at ys)
      → b ≡ is_some (field_found W (name_at W n) k) → b ≡ true → GivenBy W k ys (Some n)
  unfolding gives
  given_here ys at n y b l e i h f t =
      let m = id_of-Some W y n (sym i) in (
        m.0,
        subst (Contains ys) (sym e ∙ sym m.1) (Contains-get_or ys at y l),
        h ∙ first_at ys at y l e ∙ or_some (gives y) (first_some gives (drop (at + 1) ys)) (ap (λ z. is_some (field_found W z k)) (sym m.1) ∙ sym f ∙ t) ∙ ap gives (sym m.1),
      )

  pub given_next : (ys : List Bytes) (at n : ℕ) (y : Bytes) (b : Bool) → at < length ys → y ≡ get_or ys at y → Some n ≡ id_of W y → first_some (λ i. field_found W i k) ys ≡ first_some (λ i. field_found W i k) (drop at ys)
      → b ≡ is_some (field_found W (name_at W n) k) → b ≡ false → first_some (λ i. field_found W i k) ys ≡ first_some (λ i. field_found W i k) (drop (at + 1) ys)
  unfolding gives
  given_next ys at n y b l e i h f t =
      let m = id_of-Some W y n (sym i) in
      h ∙ first_at ys at y l e ∙ or_none (gives y) (first_some gives (drop (at + 1) ys)) (ap (λ z. is_some (field_found W z k)) (sym m.1) ∙ sym f ∙ t)

  pub given_end : (ys : List Bytes) (at : ℕ) → length ys ≤ at → first_some (λ i. field_found W i k) ys ≡ first_some (λ i. field_found W i k) (drop at ys) → GivenBy W k ys None
  unfolding first_some
  given_end ys at l h = h ∙ ap (first_some (λ i. field_found W i k)) (drop_of_length-le ys l)

-- ---- one of three, and then the next

-- ---- levels

pub level_all : (W : World) (x : Bytes) (m : ℕ) → m ≡ size W → load_fault W x ≡ None → fault_at W m x ≡ None
unfolding load_fault
level_all W x m e h = ap (λ n. fault_at W n x) e ∙ h

pub level_out : (W : World) (x : Bytes) (m : ℕ) → m ≡ 0 → fault_at W m x ≡ None → ⊥
level_out W x m e h = let l = loaded-level W m x h in omega (arith, e, l.1)

module _ (W : World) (side : IsSide W) (k : Key) (a : ℕ) (l : a < size W) where
  at : IsClass W (name_at W a)
  at = class_at W a side.differ l

  -- what its superclass gives
  above_found : Option DeclaredMember
  above_found = and_then (λ z. field_found W z k) at.facts.superclass

  own-is : own_found W (name_at W a) k ≡ found_in at.facts (own_field_of at.facts k)
  unfolding and_then
  own-is = ap (and_then (λ d. found_in d (own_field_of d k))) at.found

  interfaces-is : interfaces_found W (name_at W a) k ≡ first_some (λ i. field_found W i k) at.facts.interfaces
  unfolding and_then
  interfaces-is = ap (and_then (λ d. first_some (λ i. field_found W i k) d.interfaces)) at.found

  split : load_fault W (name_at W a) ≡ None → field_found W (name_at W a) k ≡ or_else (own_found W (name_at W a) k) (or_else (interfaces_found W (name_at W a) k) above_found)
  unfolding field_step above_found
  split h =
      stepped W k (name_at W a) at.facts at.found h
      ∙ ap (λ o. or_else o (or_else (first_some (λ i. field_found W i k) at.facts.interfaces) (and_then (λ z. field_found W z k) at.facts.superclass))) (sym own-is)
      ∙ ap (λ o. or_else (own_found W (name_at W a) k) (or_else o (and_then (λ z. field_found W z k) at.facts.superclass))) (sym interfaces-is)

  -- ---- down into an interface

  pub down_none : Gives W k (name_at W a) None → interfaces_found W (name_at W a) k ≡ None
  down_none g = interfaces-is ∙ g at.facts at.found

  pub down_same : (n : ℕ) → Gives W k (name_at W a) (Some n) → interfaces_found W (name_at W a) k ≡ field_found W (name_at W n) k
  down_same n g = interfaces-is ∙ (g at.facts at.found).2

  pub down_within : (n : ℕ) → Gives W k (name_at W a) (Some n) → n < size W
  down_within n g = (g at.facts at.found).0

  pub down_level : (m n i : ℕ) → suc n ≡ m → fault_at W m (name_at W a) ≡ None → Gives W k (name_at W a) (Some i) → fault_at W n (name_at W i) ≡ None
  down_level m n i e h g =
      let p = loaded-parts W n (name_at W a) at.facts at.found (ap (λ j. fault_at W j (name_at W a)) e ∙ h) in
      each_in (λ z. fault_at W n z ≡ None) at.facts.interfaces (name_at W i) (of_interfaces (λ z. fault_at W n z ≡ None) at.facts.superclass at.facts.interfaces p.0) (g at.facts at.found).1

  pub down_kind : (i : ℕ) → load_fault W (name_at W a) ≡ None → Gives W k (name_at W a) (Some i) → is_interface_of W (name_at W i) ≡ true
  down_kind i h g = each_in (λ z. is_interface_of W z ≡ true) at.facts.interfaces (name_at W i) (kinds W side k (name_at W a) at.facts at.found h) (g at.facts at.found).1

  -- where the interface declares the field, it gives it
  pub own_gives : (f : Found) → load_fault W (name_at W a) ≡ None → IsAnswer W (Some f) (own_found W (name_at W a) k) → IsAnswer W (Some f) (field_found W (name_at W a) k)
  own_gives f h o = subst (IsAnswer W (Some f)) (sym (split h)) (answer_or W f (own_found W (name_at W a) k) (or_else (interfaces_found W (name_at W a) k) above_found) o)

  -- and where it doesn't, its interfaces do
  pub next_gives : load_fault W (name_at W a) ≡ None → is_interface_of W (name_at W a) ≡ true → IsAnswer W None (own_found W (name_at W a) k) → field_found W (name_at W a) k ≡ interfaces_found W (name_at W a) k
  unfolding above_found
  next_gives h i o =
      let j : interface_flag at.facts.flags ≡ true = sym (ap (some_and (λ d. interface_flag d.flags)) at.found) ∙ i in
      split h ∙ ap (λ q. or_else q (or_else (interfaces_found W (name_at W a) k) above_found)) (answer_none W (own_found W (name_at W a) k) o)
      ∙ none_or_else (or_else (interfaces_found W (name_at W a) k) above_found)
      ∙ ap (or_else (interfaces_found W (name_at W a) k)) (no_super W side k (name_at W a) at.facts at.found j) ∙ or_else-last (interfaces_found W (name_at W a) k)

  -- ---- up to the superclass

  pub here_gives : (f : Found) → load_fault W (name_at W a) ≡ None → IsAnswer W (Some f) (here_found W (name_at W a) k) → IsAnswer W (Some f) (field_found W (name_at W a) k)
  here_gives f h o =
      subst (IsAnswer W (Some f)) (or_else-assoc (own_found W (name_at W a) k) (interfaces_found W (name_at W a) k) above_found ∙ sym (split h))
      (answer_or W f (here_found W (name_at W a) k) above_found o)

  up_gives : load_fault W (name_at W a) ≡ None → IsAnswer W None (here_found W (name_at W a) k) → field_found W (name_at W a) k ≡ above_found
  up_gives h o =
      split h ∙ sym (or_else-assoc (own_found W (name_at W a) k) (interfaces_found W (name_at W a) k) above_found)
      ∙ ap (λ q. or_else q above_found) (answer_none W (here_found W (name_at W a) k) o) ∙ none_or_else above_found

  pub up_none : load_fault W (name_at W a) ≡ None → IsAnswer W None (here_found W (name_at W a) k) → None ≡ superclass_of W (name_at W a) → field_found W (name_at W a) k ≡ None
  unfolding above_found and_then field_found
  up_none h o e = up_gives h o ∙ go at.facts.superclass (e ∙ superclass_is W (name_at W a) at.facts (sym at.found))
    where
      go : (s : Option Bytes) → None ≡ and_then (id_of W) s → and_then (λ z. field_found W z k) s ≡ None
      go None q = refl
      go (Some x) q = descend-absent W None None (field_step k) (size W) x (find-None W x (sym q))

  pub up_some : (t : ℕ) → load_fault W (name_at W a) ≡ None → IsAnswer W None (here_found W (name_at W a) k) → Some t ≡ superclass_of W (name_at W a) → field_found W (name_at W a) k ≡ field_found W (name_at W t) k
  unfolding above_found and_then
  up_some t h o e = up_gives h o ∙ go at.facts.superclass (e ∙ superclass_is W (name_at W a) at.facts (sym at.found))
    where
      go : (s : Option Bytes) → Some t ≡ and_then (id_of W) s → and_then (λ z. field_found W z k) s ≡ field_found W (name_at W t) k
      go None q = absurd (let clash : Some t ≡ None = q in cc)
      go (Some x) q = ap (λ z. field_found W z k) (sym (id_of-Some W x t (sym q)).1)

  pub up_level : (m n t : ℕ) → suc n ≡ m → fault_at W m (name_at W a) ≡ None → Some t ≡ superclass_of W (name_at W a) → fault_at W n (name_at W t) ≡ None
  unfolding and_then
  up_level m n t e h u =
      go at.facts.superclass (u ∙ superclass_is W (name_at W a) at.facts (sym at.found)) (loaded-parts W n (name_at W a) at.facts at.found (ap (λ j. fault_at W j (name_at W a)) e ∙ h)).0
    where
      go : (s : Option Bytes) → Some t ≡ and_then (id_of W) s → EachOf (λ z. fault_at W n z ≡ None) (supers_of s at.facts.interfaces) → fault_at W n (name_at W t) ≡ None
      go None q r = absurd (let clash : Some t ≡ None = q in cc)
      go (Some x) q r = ap (λ z. fault_at W n z) (id_of-Some W x t (sym q)).1 ∙ r.0
