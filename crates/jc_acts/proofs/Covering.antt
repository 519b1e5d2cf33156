-- The walk up the old side from a seat that widens what is kept of each class.
use Rattle.std.proofs.Common.{◌≡◌, ℕ, zero, suc, ◌+◌, ◌<◌, arith, Bool, true, false, cond, ◌||◌, List, [], ◌∷◌, length, get_or, set, eqb, refl, sym, ◌∙◌, ap, subst, Option, Some, None, ◌⊎◌, inl, inr, get_or-set_other, ◌≢◌}
use Rattle.std.specs.Prelude.{IfSome, IsTrue}
use Rattle.std.proofs.lemmas.Bool.{or_cases, or_left, or_right}
use Rattle.std.proofs.lemmas.Bool.Decides.{eqb_tells}
use Rattle.std.proofs.lemmas.Grind.{get_or-set_at}
use Rattle.std.proofs.lemmas.List.{length-set}
use Rattle.jc_facts.specs.declared.class_facts.ClassFacts.{ClassFacts}
use Rattle.jc_facts.specs.Names.{Bytes, same}
use Rattle.jc_facts.specs.world.World.{World, find_class, size, classes, differ_by_name}
use Rattle.jc_facts.specs.world.Search.{descend}
use Rattle.jc_facts.specs.world.Hierarchy.{chain, chain_step, of_super, names_in, in_chain}
use Rattle.jc_facts.specs.world.Loading.{load_fault}
use Rattle.jc_facts.proofs.Same.{same_is}
use Rattle.jc_worlds.proofs.Chains.{in_chain-deep}
use Rattle.jc_worlds.proofs.Descent.{descend-absent, descend-none_left, descend-found}
use Rattle.jc_worlds.proofs.Unrolled.{own_chain}
use Rattle.jc_index.specs.Ids.{id_of, name_at, superclass_of}
use Rattle.jc_index.specs.steps.Walking.{chain_from}
use Rattle.jc_index.proofs.Numbers.{class_at, id_of-name_at}
use Rattle.jc_index.proofs.Walking.{from-step, from-none, from-nothing}
use Rattle.jc_acts.specs.steps.Commons.{covers, takes_in, kept_of, IsWider, AreInside, AreAdded, AreWider, Widens}
use Rattle.jc_acts.proofs.Wider.{covers_through}

-- ---- the first classes of a chain are in the chain

module _ (W : World) (y : Bytes) where
  of_up : (n : ℕ) (s : Option Bytes) → ((x : Bytes) → names_in (descend W [] [] chain_step n x) y ≡ true → names_in (descend W [] [] chain_step (suc n) x) y ≡ true) → names_in (of_super (descend W [] [] chain_step n) s) y ≡ true → names_in (of_super (descend W [] [] chain_step (suc n)) s) y ≡ true
  of_up n None r h = h
  of_up n (Some s) r h = r s h

  one_deeper : (n : ℕ) (x : Bytes) → names_in (descend W [] [] chain_step n x) y ≡ true → names_in (descend W [] [] chain_step (suc n) x) y ≡ true
  unfolding chain_step
  one_deeper zero x h = absurd (start (find_class W x) refl)
    where
      start : (o : Option ClassFacts) → find_class W x ≡ o → ⊥
      start None e = let p : names_in (descend W [] [] chain_step zero x) y ≡ false = ap (λ cs. names_in cs y) (descend-absent W [] [] chain_step zero x e) in cc
      start (Some c) e = let p : names_in (descend W [] [] chain_step zero x) y ≡ false = ap (λ cs. names_in cs y) (descend-none_left W [] [] chain_step x c e) in cc
  one_deeper (suc n) x h = go (find_class W x) refl (one_deeper n)
    where
      more : (c : ClassFacts) → (same c.name y ≡ true) ⊎ (names_in (of_super (descend W [] [] chain_step n) c.superclass) y ≡ true) → ((z : Bytes) → names_in (descend W [] [] chain_step n z) y ≡ true → names_in (descend W [] [] chain_step (suc n) z) y ≡ true)
          → (same c.name y || names_in (of_super (descend W [] [] chain_step (suc n)) c.superclass) y) ≡ true
      more c (inl p) r = or_left (same c.name y) (names_in (of_super (descend W [] [] chain_step (suc n)) c.superclass) y) p
      more c (inr p) r = or_right (same c.name y) (names_in (of_super (descend W [] [] chain_step (suc n)) c.superclass) y) (of_up n c.superclass r p)

      go : (o : Option ClassFacts) → find_class W x ≡ o → ((z : Bytes) → names_in (descend W [] [] chain_step n z) y ≡ true → names_in (descend W [] [] chain_step (suc n) z) y ≡ true) → names_in (descend W [] [] chain_step (suc (suc n)) x) y ≡ true
      go None e r = absurd (let p : names_in (descend W [] [] chain_step (suc n) x) y ≡ false = ap (λ cs. names_in cs y) (descend-absent W [] [] chain_step (suc n) x e) in cc)
      go (Some c) e r =
          ap (λ cs. names_in cs y) (descend-found W [] [] chain_step (suc n) x c e)
          ∙ more c (or_cases (same c.name y) (names_in (of_super (descend W [] [] chain_step n) c.superclass) y) (sym (ap (λ cs. names_in cs y) (descend-found W [] [] chain_step n x c e)) ∙ h)) r

  deeper : (j n m : ℕ) (x : Bytes) → m ≡ j + n → names_in (descend W [] [] chain_step n x) y ≡ true → names_in (descend W [] [] chain_step m x) y ≡ true
  deeper zero n m x e h = subst (λ k. names_in (descend W [] [] chain_step k x) y ≡ true) (let q : n ≡ m = omega arith in q) h
  deeper (suc j) n m x e h = subst (λ k. names_in (descend W [] [] chain_step k x) y ≡ true) (let q : suc (j + n) ≡ m = omega arith in q) (one_deeper (j + n) x (deeper j n (j + n) x refl h))

  front_in : (n : ℕ) (x : Bytes) → names_in (descend W [] [] chain_step n x) y ≡ true → in_chain W x y ≡ true
  front_in n x h = sym (in_chain-deep W y (size W + n) (omega arith) x) ∙ deeper (size W) n (size W + n) x refl h

-- ---- places

pub put : {A : Type 0} (xs : List A) (n k : ℕ) (x d : A) → n < length xs → get_or (set xs n x) k d ≡ cond (eqb n k) x (get_or xs k d)
put xs n k x d l = go (eqb_tells n k)
  where
    go : ((eqb n k ≡ true) × (n ≡ k)) ⊎ ((eqb n k ≡ false) × (n ≢ k)) → get_or (set xs n x) k d ≡ cond (eqb n k) x (get_or xs k d)
    go (inl e) = rw e.0 (get_or-set_at xs n k x d (sym e.1) l)
    go (inr e) = rw e.0 (get_or-set_other xs n k x d (λ q. e.1 (sym q)))

-- ---- the walk

-- a stands below the class of number `wide`, what is kept is as wide as it was, and each class that a stood below is covered or ahead
pub record IsOnWay (O N : World) (a : Bytes) (before after : List (Option ℕ)) (n : ℕ) (next : Option ℕ) (wide : ℕ) : Type 0 where
  pub there : IfSome next (λ id. id < size O)
  pub below : wide < size N
  pub reached : in_chain N a (name_at N wide) ≡ true
  pub inside : AreInside O N after
  pub wider : AreWider N before after
  pub ahead : (k : ℕ) → k < size O → in_chain O a (name_at O k) ≡ true → (covers N (kept_of after k) a || names_in (chain_from O n next) (name_at O k)) ≡ true

module _ (O N : World) (a : Bytes) (loads : load_fault N a ≡ None) (before : List (Option ℕ)) where
  pub starts : (n id now : ℕ) → n ≡ size O → name_at O id ≡ a → name_at N now ≡ a → id < size O → now < size N → AreInside O N before → IsOnWay O N a before before n (Some id) now
  unfolding chain_from chain
  starts n id now e o m l k i = record {
    there = l;
    below = k;
    reached = subst (λ (z : Bytes). in_chain N a z ≡ true) (sym m) (own_chain N a loads);
    inside = i;
    wider = λ b _ j h. h;
    ahead = λ j _ h. or_right (covers N (kept_of before j) a) (names_in (chain_from O n (Some id)) (name_at O j)) (subst (λ (z : Bytes). names_in (descend O [] [] chain_step n z) (name_at O j) ≡ true) (sym o) (subst (λ t. names_in (descend O [] [] chain_step t a) (name_at O j) ≡ true) (sym e) h));
  }

  -- one class further up
  pub steps : (d : IsTrue (differ_by_name (classes O))) (after : List (Option ℕ)) (n m id wide w : ℕ) (up : Option ℕ) → n ≡ suc m → IsOnWay O N a before after n (Some id) wide
      → w < size N → takes_in N (kept_of after id) w → IsWider N (name_at N wide) (name_at N w) → IfSome up (λ k. k < size O) → up ≡ superclass_of O (name_at O id)
      → IsOnWay O N a before (set after id (Some w)) m up w
  steps d after n m id wide w up e on l takes more there u = record {
    there = there;
    below = l;
    reached = here;
    inside = record { count = length-set after id (Some w) ∙ on.inside.count; within = λ k. within k (eqb id k) (put after id k (Some w) None inner) };
    wider = λ b f k h. wider b f k (eqb_tells id k) (put after id k (Some w) None inner) (on.wider b f k h);
    ahead = λ k i h. ahead k i (eqb_tells id k) (put after id k (Some w) None inner) (or_cases (covers N (kept_of after k) a) (names_in (chain_from O n (Some id)) (name_at O k)) (on.ahead k i h));
  }
    where
      here : in_chain N a (name_at N w) ≡ true
      here = more a loads on.reached

      inner : id < length after
      inner = subst (λ t. id < t) (sym on.inside.count) on.there

      within : (k : ℕ) (b : Bool) → kept_of (set after id (Some w)) k ≡ cond b (Some w) (kept_of after k) → IfSome (kept_of (set after id (Some w)) k) (λ c. c < size N)
      within k true p = subst (λ o. IfSome o (λ c. c < size N)) (sym p) l
      within k false p = subst (λ o. IfSome o (λ c. c < size N)) (sym p) (on.inside.within k)

      wider : (b : Bytes) → load_fault N b ≡ None → (k : ℕ) → ((eqb id k ≡ true) × (id ≡ k)) ⊎ ((eqb id k ≡ false) × (id ≢ k)) → kept_of (set after id (Some w)) k ≡ cond (eqb id k) (Some w) (kept_of after k)
          → covers N (kept_of after k) b ≡ true → covers N (kept_of (set after id (Some w)) k) b ≡ true
      wider b f k (inl q) p h =
          subst (λ o. covers N o b ≡ true) (sym (p ∙ ap (λ t. cond t (Some w) (kept_of after k)) q.0)) (takes b f (subst (λ t. covers N (kept_of after t) b ≡ true) (sym q.1) h))
      wider b f k (inr q) p h = subst (λ o. covers N o b ≡ true) (sym (p ∙ ap (λ t. cond t (Some w) (kept_of after k)) q.0)) h

      other : (k : ℕ) → k < size O → id ≢ k → (c : ClassFacts) → c.name ≡ name_at O id → (same c.name (name_at O k) ≡ true) ⊎ (names_in (chain_from O m up) (name_at O k) ≡ true) → names_in (chain_from O m up) (name_at O k) ≡ true
      other k i ne c name (inl s) =
          absurd (let p : Some id ≡ Some k = sym (id_of-name_at O id d on.there) ∙ ap (id_of O) (sym name ∙ same_is c.name (name_at O k) s) ∙ id_of-name_at O k d i in ne cc)
      other k i ne c name (inr s) = s

      rest : (k : ℕ) → k < size O → id ≢ k → names_in (chain_from O n (Some id)) (name_at O k) ≡ true → names_in (chain_from O m up) (name_at O k) ≡ true
      rest k i ne h =
          let c = class_at O id d on.there in
          let s : chain_from O n (Some id) ≡ c.facts ∷ chain_from O m up = from-step O n m id c.facts e c.found ∙ ap (λ t. c.facts ∷ chain_from O m t) (sym u) in
          other k i ne c.facts c.name (or_cases (same c.facts.name (name_at O k)) (names_in (chain_from O m up) (name_at O k)) (sym (ap (λ cs. names_in cs (name_at O k)) s) ∙ h))

      ahead : (k : ℕ) → k < size O → ((eqb id k ≡ true) × (id ≡ k)) ⊎ ((eqb id k ≡ false) × (id ≢ k)) → kept_of (set after id (Some w)) k ≡ cond (eqb id k) (Some w) (kept_of after k)
          → (covers N (kept_of after k) a ≡ true) ⊎ (names_in (chain_from O n (Some id)) (name_at O k) ≡ true) → (covers N (kept_of (set after id (Some w)) k) a || names_in (chain_from O m up) (name_at O k)) ≡ true
      ahead k i (inl q) p h = or_left (covers N (kept_of (set after id (Some w)) k) a) (names_in (chain_from O m up) (name_at O k)) (subst (λ o. covers N o a ≡ true) (sym (p ∙ ap (λ t. cond t (Some w) (kept_of after k)) q.0)) here)
      ahead k i (inr q) p (inl h) = or_left (covers N (kept_of (set after id (Some w)) k) a) (names_in (chain_from O m up) (name_at O k)) (subst (λ o. covers N o a ≡ true) (sym (p ∙ ap (λ t. cond t (Some w) (kept_of after k)) q.0)) h)
      ahead k i (inr q) p (inr h) = or_right (covers N (kept_of (set after id (Some w)) k) a) (names_in (chain_from O m up) (name_at O k)) (rest k i q.1 h)

  -- nothing is ahead
  widens : (after : List (Option ℕ)) (n : ℕ) (next : Option ℕ) (wide : ℕ) → IsOnWay O N a before after n next wide → ((k : ℕ) → k < size O → names_in (chain_from O n next) (name_at O k) ≡ true → covers N (kept_of after k) a ≡ true) → Widens O N a before after
  widens after n next wide on h = record { inside = on.inside; wider = on.wider; covered = λ k i j. go k i (or_cases (covers N (kept_of after k) a) (names_in (chain_from O n next) (name_at O k)) (on.ahead k i j)) }
    where
      go : (k : ℕ) → k < size O → (covers N (kept_of after k) a ≡ true) ⊎ (names_in (chain_from O n next) (name_at O k) ≡ true) → covers N (kept_of after k) a ≡ true
      go k i (inl p) = p
      go k i (inr p) = h k i p

  pub ends_at_top : (after : List (Option ℕ)) (n : ℕ) (next : Option ℕ) (wide : ℕ) → next ≡ None → IsOnWay O N a before after n next wide → Widens O N a before after
  ends_at_top after n next wide e on = widens after n next wide on (λ k i h. absurd (let q : names_in (chain_from O n next) (name_at O k) ≡ false = ap (λ o. names_in (chain_from O n o) (name_at O k)) e ∙ ap (λ cs. names_in cs (name_at O k)) (from-nothing O n) in cc))

  pub ends : (after : List (Option ℕ)) (n : ℕ) (next : Option ℕ) (wide : ℕ) → n ≡ 0 → IsOnWay O N a before after n next wide → Widens O N a before after
  ends after n next wide e on = widens after n next wide on (λ k i h. absurd (let q : names_in (chain_from O n next) (name_at O k) ≡ false = ap (λ t. names_in (chain_from O t next) (name_at O k)) e ∙ ap (λ cs. names_in cs (name_at O k)) (from-none O next) in cc))

  -- what is ahead is above a seat that was added, and this one stands below that
  pub ends_at_seat : (added after : List (Option ℕ)) (n id wide : ℕ) (o : Option ℕ) → AreAdded O N before added → IsOnWay O N a before after n (Some id) wide → kept_of added id ≡ o → covers N o a ≡ true → Widens O N a before after
  unfolding chain_from
  ends_at_seat added after n id wide None are on e h = absurd (cc)
  ends_at_seat added after n id wide (Some c) are on e h = widens after n (Some id) wide on (λ k i p.
      let b : Bytes = name_at O id in
      let in_b : in_chain N a b ≡ true = subst (λ (z : Bytes). in_chain N a z ≡ true) (are.named id c e) h in
      covers_through N (kept_of after k) b a loads in_b (on.wider b (are.loads id c e) k (are.covered id c e k i (front_in O (name_at O k) n b p))))
