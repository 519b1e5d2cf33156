-- A walk up another chain beside the first one.
use Rattle.std.proofs.Common.{◌≡◌, ℕ, zero, suc, ◌+◌, Bool, true, false, cond, ◌||◌, [], refl, sym, ◌∙◌, ap, subst, arith, Option, Some, None, is_some}
use Rattle.std.proofs.lemmas.Bool.{or_left, or_right}
use Rattle.jc_facts.specs.declared.class_facts.ClassFacts.{ClassFacts}
use Rattle.jc_facts.specs.Names.{Bytes, same}
use Rattle.jc_facts.specs.Options.{and_then, some_and}
use Rattle.jc_facts.specs.world.World.{World, find_class, size}
use Rattle.jc_facts.specs.world.Search.{descend}
use Rattle.jc_facts.specs.world.Hierarchy.{chain_step, names_in, in_chain}
use Rattle.jc_worlds.proofs.Chains.{in_chain-deep}
use Rattle.jc_worlds.proofs.Descent.{descend-absent}
use Rattle.jc_index.specs.Ids.{name_at, superclass_of}
use Rattle.jc_index.specs.steps.Walking.{chain_from}
use Rattle.jc_index.proofs.Walking.{from-step, from-none, from-nothing}
use Rattle.jc_acts.specs.steps.Chains.{has_name, superclass_of_any, met_beside, beside_after}

-- whatever so many levels lead to from here is in the chain of z, however many they are
abbrev pub IsBeside : World → Bytes → Option ℕ → Type 0
IsBeside N z beside = (n : ℕ) (y : Bytes) → names_in (chain_from N n beside) y ≡ true → in_chain N z y ≡ true

-- a class that isn't there has no superclass
none_up : (N : World) (x : Bytes) → find_class N x ≡ None → superclass_of N x ≡ None
unfolding superclass_of and_then
none_up N x f = rw f refl

-- one that isn't there leads to nothing
from_absent : (N : World) (n a : ℕ) → find_class N (name_at N a) ≡ None → chain_from N n (Some a) ≡ []
unfolding chain_from
from_absent N n a f = descend-absent N [] [] chain_step n (name_at N a) f

module _ (N : World) (y : Bytes) where
  -- what so many levels lead to one more does
  deeper : (n : ℕ) (o : Option ℕ) → names_in (chain_from N n o) y ≡ true → names_in (chain_from N (suc n) o) y ≡ true
  deeper n None h = ap (λ cs. names_in cs y) (from-nothing N (suc n)) ∙ sym (ap (λ cs. names_in cs y) (from-nothing N n)) ∙ h
  deeper zero (Some a) h = absurd (let z : false ≡ true = sym (ap (λ cs. names_in cs y) (from-none N (Some a))) ∙ h in cc)
  deeper (suc m) (Some a) h = go (find_class N (name_at N a)) refl (deeper m (superclass_of N (name_at N a)))
    where
      by : (b p q : Bool) → (p ≡ true → q ≡ true) → (b || p) ≡ true → (b || q) ≡ true
      by true p q r k = refl
      by false p q r k = r k

      go : (o : Option ClassFacts) → find_class N (name_at N a) ≡ o → (names_in (chain_from N m (superclass_of N (name_at N a))) y ≡ true → names_in (chain_from N (suc m) (superclass_of N (name_at N a))) y ≡ true)
          → names_in (chain_from N (suc (suc m)) (Some a)) y ≡ true
      go None f r = ap (λ cs. names_in cs y) (from_absent N (suc (suc m)) a f ∙ sym (from_absent N (suc m) a f)) ∙ h
      go (Some c) f r =
          ap (λ cs. names_in cs y) (from-step N (suc (suc m)) (suc m) a c refl f)
          ∙ by (same c.name y) (names_in (chain_from N m (superclass_of N (name_at N a))) y) (names_in (chain_from N (suc m) (superclass_of N (name_at N a))) y) r
          (sym (ap (λ cs. names_in cs y) (from-step N (suc m) m a c refl f)) ∙ h)

  -- and so do many more
  deeper_by : (k n m : ℕ) → m ≡ n + k → (o : Option ℕ) → names_in (chain_from N n o) y ≡ true → names_in (chain_from N m o) y ≡ true
  deeper_by zero n m e o h = subst (λ j. names_in (chain_from N j o) y ≡ true) (omega (arith, e)) h
  deeper_by (suc k) n m e o h = subst (λ j. names_in (chain_from N j o) y ≡ true) (omega (arith, e)) (deeper (n + k) o (deeper_by k n (n + k) refl o h))

module _ (N : World) (z : Bytes) where
  -- at the class itself
  pub beside_starts : (a : ℕ) → name_at N a ≡ z → IsBeside N z (Some a)
  unfolding chain_from
  beside_starts a w = λ n y h.
      sym (in_chain-deep N y (n + size N) (omega arith) z) ∙ ap (λ u. names_in (descend N [] [] chain_step (n + size N) u) y) (sym w) ∙ deeper_by N y (size N) n (n + size N) refl (Some a) h

  -- a class that has the name is in the chain
  pub beside_named : (o : Option ℕ) (y : Bytes) → IsBeside N z o → has_name N o y ≡ true → in_chain N z y ≡ true
  beside_named None y h i = absurd (cc)
  beside_named (Some a) y h i = go (find_class N (name_at N a)) refl i
    where
      go : (o : Option ClassFacts) → find_class N (name_at N a) ≡ o → some_and (λ c. same c.name y) o ≡ true → in_chain N z y ≡ true
      go None f k = absurd (cc)
      go (Some c) f k = h 1 y (ap (λ cs. names_in cs y) (from-step N 1 0 a c refl f) ∙ or_left (same c.name y) (names_in (chain_from N 0 (superclass_of N (name_at N a))) y) k)

  -- one class further up
  pub beside_up : (o up : Option ℕ) → up ≡ superclass_of_any N o → IsBeside N z o → IsBeside N z up
  beside_up None up u h = λ n y i. absurd (let q : names_in (chain_from N n up) y ≡ false = ap (λ o. names_in (chain_from N n o) y) u ∙ ap (λ cs. names_in cs y) (from-nothing N n) in let x : true ≡ false = sym i ∙ q in cc)
  beside_up (Some a) up u h = λ n y i. go n y (find_class N (name_at N a)) refl (ap (λ o. names_in (chain_from N n o) y) (sym u) ∙ i)
    where
      go : (n : ℕ) (y : Bytes) (o : Option ClassFacts) → find_class N (name_at N a) ≡ o → names_in (chain_from N n (superclass_of N (name_at N a))) y ≡ true → in_chain N z y ≡ true
      go n y None f k = absurd (let x : true ≡ false = sym k ∙ ap (λ o. names_in (chain_from N n o) y) (none_up N (name_at N a) f) ∙ ap (λ cs. names_in cs y) (from-nothing N n) in cc)
      go n y (Some c) f k = h (suc n) y (ap (λ cs. names_in cs y) (from-step N (suc n) n a c refl f) ∙ or_right (same c.name y) (names_in (chain_from N n (superclass_of N (name_at N a))) y) k)

  -- one that is met
  met_cases : (beside : Option ℕ) (y : Bytes) → IsBeside N z beside → (met : Option ℕ) → met ≡ met_beside N beside y → (is_some met ≡ true → in_chain N z y ≡ true) × IsBeside N z (beside_after N beside met)
  met_cases beside y h met e = go (has_name N beside y) refl (has_name N (superclass_of_any N beside) y) refl e
    where
      up : IsBeside N z (superclass_of_any N beside)
      up = beside_up beside (superclass_of_any N beside) refl h

      after : (o m : Option ℕ) → m ≡ o → IsBeside N z o → IsBeside N z (beside_after N beside m)
      after o None q k = h
      after o (Some n) q k = beside_up (Some n) (superclass_of N (name_at N n)) refl (subst (IsBeside N z) (sym q) k)

      go : (a : Bool) → has_name N beside y ≡ a → (b : Bool) → has_name N (superclass_of_any N beside) y ≡ b → met ≡ cond a beside (cond b (superclass_of_any N beside) None)
          → (is_some met ≡ true → in_chain N z y ≡ true) × IsBeside N z (beside_after N beside met)
      go true p b q m = (λ s. beside_named beside y h p, after beside met m h)
      go false p true q m = (λ s. beside_named (superclass_of_any N beside) y up q, after (superclass_of_any N beside) met m up)
      go false p false q m = (λ s. absurd (let x : false ≡ true = sym (ap is_some m) ∙ s in cc), subst (λ o. IsBeside N z (beside_after N beside o)) (sym m) h)

  pub met_there : (beside : Option ℕ) (y : Bytes) (met : Bool) → met ≡ is_some (met_beside N beside y) → IsBeside N z beside → met ≡ true → in_chain N z y ≡ true
  met_there beside y met e h m = (met_cases beside y h (met_beside N beside y) refl).0 (sym e ∙ m)

  pub met_goes : (beside : Option ℕ) (y : Bytes) (after : Option ℕ) → after ≡ beside_after N beside (met_beside N beside y) → IsBeside N z beside → IsBeside N z after
  met_goes beside y after u h = subst (IsBeside N z) (sym u) (met_cases beside y h (met_beside N beside y) refl).1
