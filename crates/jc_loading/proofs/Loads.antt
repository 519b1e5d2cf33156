-- The classes of a platform that load without any release: they load with each, in however many modules, since the platform is whole in one.
use Rattle.std.proofs.Common.{◌≡◌, ℕ, ◌<◌, ◌≤◌, Bool, true, false, cond, eqb, List, [], ◌∷◌, ◌++◌, length, get_or, map, take, refl, sym, ◌∙◌, ap, subst, Some, None, arith, length-append}
use Rattle.std.specs.Prelude.{is_some, IsTrue}
use Rattle.std.specs.List.{All, Contains}
use Rattle.std.proofs.lemmas.Bool.{eqb-true}
use Rattle.std.proofs.lemmas.List.{append-nil, length-map, get_or-map, take-map}
use Rattle.std.proofs.lemmas.List.Elements.{All-contains, All-take, Contains-get_or, recursion_from_All}
use Rattle.jc_lemmas.proofs.Listed.{EachOf, EachOf-map, none, any_passes}
use Rattle.jc_facts.specs.declared.class_facts.ClassFacts.{ClassFacts}
use Rattle.jc_facts.specs.Names.{Bytes}
use Rattle.jc_facts.specs.world.World.{differ_by_name, World, side, classes, size, find_class, class_named}
use Rattle.jc_facts.specs.file.Valid.{IsValidClass}
use Rattle.jc_facts.specs.ByName.{least}
use Rattle.jc_facts.specs.world.Loading.{load_fault}
use Rattle.jc_facts.specs.world.Search.{supers}
use Rattle.jc_facts.proofs.World.{class_named-first}
use Rattle.jc_worlds.specs.Agreement.{SeeAlike}
use Rattle.jc_worlds.proofs.Agree.{Agree, load_fault-agree}
use Rattle.jc_worlds.proofs.VisibleFrom.{within_platform}
use Rattle.jc_worlds.proofs.Loaded.{loads-found, loads-parts}
use Rattle.jc_index.specs.Ids.{name_at, id_of, name_in}
use Rattle.jc_index.specs.LoadOrder.{AreInLoadOrder, IsLoadOrder}
use Rattle.jc_loading.specs.PlatformLoads.{LoadsAfter, LoadInOrder, AreLoads, AreAllLoads}
use Rattle.jc_index.specs.Root.{fault_of_root}
use Rattle.jc_index.specs.Sides.{IsSide}
use Rattle.jc_loading.specs.declared.faults.State.{State}
use Rattle.jc_loading.specs.declared.faults.State.TheVariants as states
use Rattle.jc_loading.specs.steps.Entering.{AllLoad, IsRight, IsSettled, is_entered, is_number_among, state_of}
use Rattle.jc_loading.specs.steps.Passing.{Orders}
use Rattle.jc_index.proofs.InSide.{of-platform}
use Rattle.jc_index.proofs.Numbers.{id_of-Some, id_of-name_at, number_of}
use Rattle.jc_index.proofs.Roots.{is_side}

-- ---- with any release

-- a platform's classes are all that there are without a release
pub alone : (P : List ClassFacts) → classes (side P []) ≡ P
alone P = append-nil (P ++ []) ∙ append-nil P

-- its class is found on each side
find-alone : (V : World) (x : Bytes) (c : ClassFacts) → find_class (side V.platform []) x ≡ Some c → find_class V x ≡ Some c
unfolding find_class
find-alone V x c e =
    let here : class_named V.platform x ≡ Some c = ap (λ (cs : List ClassFacts). class_named cs x) (sym (alone V.platform)) ∙ e in
    let first : class_named (V.platform ++ V.release) x ≡ Some c = class_named-first V.platform V.release x (ap is_some here) ∙ here in
    class_named-first (V.platform ++ V.release) V.clients x (ap is_some first) ∙ first

-- the side agrees with the platform on the names of classes that load in the platform alone
agree : (V : World) → Agree (side V.platform []) V (λ x. load_fault (side V.platform []) x ≡ None)
agree V = record {
  same = λ x h. (let f = loads-found (side V.platform []) x h in f.1 ∙ sym (find-alone V x f.0 f.1));
  is_closed = λ x c h e. (loads-parts (side V.platform []) x c e h).0;
}

-- the platform alone declares it
declared_alone : (P : List ClassFacts) (x : Bytes) → load_fault (side P []) x ≡ None → is_some (class_named P x) ≡ true
unfolding find_class
declared_alone P x h = let f = loads-found (side P []) x h in ap is_some (ap (λ (cs : List ClassFacts). class_named cs x) (sym (alone P)) ∙ f.1)

see_alike : (V : World) (x y : Bytes) → load_fault (side V.platform []) x ≡ None → load_fault (side V.platform []) y ≡ None → SeeAlike (side V.platform []) V x y
see_alike V x y h k =
    let a = declared_alone V.platform x h in
    let b = declared_alone V.platform y k in
    within_platform (side V.platform []) V x y a b a b

fewer : (V : World) → size (side V.platform []) ≤ size V
unfolding size
fewer V = omega (arith, ap length (alone V.platform), length-append V.platform V.release, length-append (V.platform ++ V.release) V.clients)

-- a class that loads in the platform alone loads on each side of it
pub still-loads : (V : World) (x : Bytes) → load_fault (side V.platform []) x ≡ None → load_fault V x ≡ None
still-loads V x h = sym (load_fault-agree (side V.platform []) V (λ y. load_fault (side V.platform []) y ≡ None) (agree V) (see_alike V) (fewer V) x h) ∙ h

still-after : (V : World) (before : List Bytes) (x : Bytes) → LoadsAfter (side V.platform []) before x → LoadsAfter V before x
still-after V before x h = record {
  loads = still-loads V x h.loads;
  above = λ c e.
      (let f = loads-found (side V.platform []) x h.loads in
      let s : Some f.0 ≡ Some c = sym (find-alone V x f.0 f.1) ∙ e in
      let k : f.0 ≡ c = cc in
      subst (λ (d : ClassFacts). EachOf (λ s. Contains before s) (supers d)) k (h.above f.0 f.1));
}

-- so is an order in which they can be loaded
still-in_order : (V : World) (xs : List Bytes) → LoadInOrder (side V.platform []) xs → LoadInOrder V xs
still-in_order V xs h = λ i d l. still-after V (take i xs) (get_or xs i d) (h i d l)

-- ---- names and numbers

in_names : (f : ℕ → Bytes) (ns : List ℕ) (n : ℕ) → Contains ns n → Contains (map f ns) (f n)
in_names f ns n k = (k.0, subst (λ m. k.0 < m) (sym (length-map ns f)) k.1, get_or-map f ns k.0 n (f n) k.1 ∙ ap f k.2)

in_numbers : (f : ℕ → Bytes) (ns : List ℕ) (x : Bytes) → Contains (map f ns) x → (n : ℕ) × Contains ns n × (f n ≡ x)
in_numbers f ns x k =
    let l : k.0 < length ns = subst (λ m. k.0 < m) (length-map ns f) k.1 in
    (get_or ns k.0 0, Contains-get_or ns k.0 0 l, sym (get_or-map f ns k.0 0 x l) ∙ k.2)

-- an order of numbers is one of names
by-names : (W : World) (order : List ℕ) → AreInLoadOrder W order → LoadInOrder W (map (name_at W) order)
by-names W order h = λ i d l.
    let k : i < length order = subst (λ m. i < m) (length-map order (name_at W)) l in
    let next = h i 0 k in
    let at : get_or (map (name_at W) order) i d ≡ name_at W (get_or order i 0) = get_or-map (name_at W) order i 0 d k in
    rw (at, take-map (name_at W) i order) (record {
      loads = next.loads;
      above = λ c e. EachOf-map (named (take i order)) (supers c) (next.above c e);
    })
  where
    named : (before : List ℕ) (s : Bytes) → (m : ℕ) × (id_of W s ≡ Some m) × Contains before m → Contains (map (name_at W) before) s
    named before s h = subst (λ (x : Bytes). Contains (map (name_at W) before) x) (id_of-Some W s h.0 h.1).1 (in_names (name_at W) before h.0 h.2)

-- and back
by-numbers : (W : World) (order : List ℕ) → IsTrue (differ_by_name (classes W)) → All (λ n. n < size W) order → LoadInOrder W (map (name_at W) order) → AreInLoadOrder W order
by-numbers W order differ within h = λ i d l.
    let k : i < length (map (name_at W) order) = subst (λ m. i < m) (sym (length-map order (name_at W))) l in
    let next : LoadsAfter W (take i (map (name_at W) order)) (name_at W (get_or order i d)) =
    subst (λ (x : Bytes). LoadsAfter W (take i (map (name_at W) order)) x) (get_or-map (name_at W) order i d [] l) (h i [] k) in
    record {
      within = within i d l;
      loads = next.loads;
      above = λ c e.
          EachOf-map (numbered (take i order) (All-take (λ n. n < size W) i order within)) (supers c)
          (subst (λ (xs : List Bytes). EachOf (λ s. Contains xs s) (supers c)) (take-map (name_at W) i order) (next.above c e));
    }
  where
    numbered : (before : List ℕ) → All (λ n. n < size W) before → (s : Bytes) → Contains (map (name_at W) before) s → (m : ℕ) × (id_of W s ≡ Some m) × Contains before m
    numbered before inside s h =
        let n = in_numbers (name_at W) before s h in
        (n.0, ap (id_of W) (sym n.2) ∙ id_of-name_at W n.0 differ (All-contains (λ m. m < size W) before n.0 inside n.1), n.1)

-- ---- the places of the platform's classes on a side

-- the names of the platform's classes at these places
platform-names : (V : World) (places : List ℕ) → All (λ at. at < length V.platform) places → map (name_in (classes V)) places ≡ map (name_in V.platform) places
platform-names V places h = go places (recursion_from_All (λ at. at < length V.platform) places h)
  where
    go : (places : List ℕ) → EachOf (λ at. at < length V.platform) places → map (name_in (classes V)) places ≡ map (name_in V.platform) places
    go [] h = refl
    go (at ∷ places) h = rw (of-platform V at h.0, go places h.1) refl

-- ---- from the platform alone to a side of it

-- the platform alone is a side
pub is_side-alone : (P : List ClassFacts) → All IsValidClass P → IsTrue (differ_by_name P) → None ≡ fault_of_root P → IsSide (side P [])
unfolding differ_by_name least
is_side-alone P valid differ root = is_side P [] valid (λ k d l. absurd (let m : k < 0 = l in omega arith)) differ refl root refl

-- the places of the classes that load in the platform alone
module _ (P : List ClassFacts) (W : World) (order places : List ℕ) (is : W ≡ side P []) (h : IsLoadOrder W order) (named : map (name_in (classes W)) places ≡ map (name_at W) order) where
  all-classes : classes W ≡ P
  all-classes = ap classes is ∙ alone P

  names-alone : map (name_at W) order ≡ map (name_in P) places
  names-alone = sym named ∙ ap (λ (cs : List ClassFacts). map (name_in cs) places) all-classes

  pub loads-alone : All (λ at. at < length (classes W)) places → AreLoads P places
  loads-alone within = record {
    within = subst (λ (cs : List ClassFacts). All (λ at. at < length cs) places) all-classes within;
    order = subst (λ (V : World). LoadInOrder V (map (name_in P) places)) is (subst (LoadInOrder W) names-alone (by-names W order h.each));
  }

  -- they are all that do
  pub all-alone : AreAllLoads P places
  all-alone x loads =
      let loads_here : load_fault W x ≡ None = subst (λ (V : World). load_fault V x ≡ None) (sym is) loads in
      let n = number_of W x (ap is_some (loads-found W x loads_here).1) in
      let at = id_of-Some W x n.0 n.1 in
      let stands : Contains order n.0 = h.all n.0 at.0 (subst (λ (y : Bytes). load_fault W y ≡ None) (sym at.1) loads_here) in
      subst (λ (xs : List Bytes). Contains xs x) names-alone (subst (λ (y : Bytes). Contains (map (name_at W) order) y) at.1 (in_names (name_at W) order n.0 stands))

-- the numbers of these classes on a side stand in an order of loading
pub numbers-in_order : (V : World) (places order : List ℕ) → IsTrue (differ_by_name (classes V)) → AreLoads V.platform places → All (λ n. n < size V) order
    → map (name_at V) order ≡ map (name_in (classes V)) places → AreInLoadOrder V order
numbers-in_order V places order differ loads within named =
    by-numbers V order differ within
    (subst (LoadInOrder V) (sym (named ∙ platform-names V places loads.within)) (still-in_order V (map (name_in V.platform) places) loads.order))

-- ---- what is known then

module _ (W : World) (order : List ℕ) (each : AreInLoadOrder W order) where
  loads-in : (n : ℕ) → Contains order n → load_fault W (name_at W n) ≡ None
  loads-in n k = ap (λ m. load_fault W (name_at W m)) (sym k.2) ∙ (each k.0 n k.1).loads

  among : (n : ℕ) → is_number_among n order ≡ true → Contains order n
  among n e =
      let p = any_passes (λ m. eqb m n) order e in
      subst (Contains order) (eqb-true p.one n p.passes) p.is_in

  pub known-settled : (ss after : List State) → IsSettled W ss → AllLoad ss order after → IsSettled W after
  known-settled ss after s a = record {
    right = record { count = a.0 ∙ s.right.count; right = λ n. right n (is_number_among n order) refl (a.1 n) };
    closed = λ n. closed n (is_number_among n order) (a.1 n);
  }
    where
      right : (n : ℕ) (b : Bool) → is_number_among n order ≡ b → state_of after n ≡ cond b (states.Known None) (state_of ss n) → IsRight W (name_at W n) (state_of after n)
      right n true e h = subst (λ (t : State). IsRight W (name_at W n) t) (sym h) (loads-in n (among n e))
      right n false e h = subst (λ (t : State). IsRight W (name_at W n) t) (sym h) (s.right.right n)

      closed : (n : ℕ) (b : Bool) → state_of after n ≡ cond b (states.Known None) (state_of ss n) → is_entered (state_of after n) ≡ false
      closed n true h = ap is_entered h
      closed n false h = ap is_entered h ∙ s.closed n

  pub known-orders : (ss after : List State) → Orders W ss [] → AllLoad ss order after → Orders W after order
  known-orders ss after o a = record { each = each; known = λ n l e. known n l (is_number_among n order) refl (sym (a.1 n) ∙ e) }
    where
      known : (n : ℕ) → n < size W → (b : Bool) → is_number_among n order ≡ b → cond b (states.Known None) (state_of ss n) ≡ states.Known None → Contains order n
      known n l true e h = among n e
      known n l false e h = absurd (none n (o.known n l h))
