-- A walk up a chain by numbers.
use Rattle.std.proofs.Common.{◌≡◌, ◌<◌, ℕ, suc, Bool, true, false, List, [], ◌∷◌, refl, sym, ◌∙◌, ap, subst, Option, Some, None, cond, is_some, ◌==◌, ◌||◌, ◌&&◌, nat_lt}
use Rattle.std.specs.BTreeSet as sorted
use Rattle.std.specs.Ordering.{nat_cmp}
use Rattle.std.specs.Cmp.{unsigned_ties}
use Rattle.std.proofs.lemmas.Bool.{both_ways, eq-eqb, ltb-true, lt-ltb}
use Rattle.std.proofs.lemmas.Map.Views.{exact_unsigned_eq}
use Rattle.jc_facts.specs.declared.class_facts.ClassFacts.{ClassFacts}
use Rattle.jc_facts.specs.Names.{Bytes, same}
use Rattle.jc_facts.specs.world.World.{World, find_class, size}
use Rattle.jc_facts.specs.Options.{and_then}
use Rattle.jc_facts.specs.world.Search.{descend, of_class}
use Rattle.jc_facts.specs.world.Hierarchy.{chain, chain_step, of_super, names_in, in_chain}
use Rattle.jc_index.specs.Ids.{name_at, id_of, superclass_of}
use Rattle.jc_index.specs.Sides.{IsSide}
use Rattle.jc_rules.specs.steps.Chains.{HasChain}
use Rattle.jc_worlds.proofs.Descent.{descend-absent, descend-found}
use Rattle.jc_facts.proofs.World.{find-name}
use Rattle.jc_facts.proofs.Same.{same_is, same_itself}
use Rattle.jc_index.proofs.Keeps.{super-below}
use Rattle.jc_index.proofs.Numbers.{find-None, id-find, id_of-Some, id_of-name_at}
use Rattle.jc_index.proofs.Walking.{super-of}

-- the classes that n levels lead to from the number that is next
abbrev pub walk : World → ℕ → Option ℕ → List ClassFacts
walk W n None = []
walk W n (Some k) = descend W [] [] chain_step n (name_at W k)

-- the walk has come so far: what the set has, and what is still ahead
pub record HasWalked (W : World) (x : Bytes) (left : ℕ) (next : Option ℕ) (seen : sorted.BTreeSet ℕ) : Type 0 where
  pub ordered : sorted.IsOrdered nat_cmp seen
  pub below : (k : ℕ) → next ≡ Some k → k < size W
  pub both : (k : ℕ) → (sorted.contains nat_cmp seen k || (nat_lt k (size W) && names_in (walk W left next) (name_at W k))) ≡ (nat_lt k (size W) && in_chain W x (name_at W k))

-- ---- the classes of two levels

of_no_class : {B : Type 0} (W : World) (missing deep : B) (step : (Bytes → B) → ClassFacts → B) (n : ℕ) (x : Bytes) → find_class W x ≡ None → descend W missing deep step n x ≡ missing
of_no_class W missing deep step n x e = descend-absent W missing deep step n x e

-- no level is left
walked_out : (W : World) (next : Option ℕ) → walk W 0 next ≡ []
unfolding descend
walked_out W None = refl
walked_out W (Some k) = go (find_class W (name_at W k))
  where
    go : (o : Option ClassFacts) → of_class {B = List ClassFacts} [] (λ c. []) o ≡ []
    go None = refl
    go (Some c) = refl

-- a class that is there
there : (W : World) → IsSide W → (k : ℕ) → k < size W → (c : ClassFacts) × (find_class W (name_at W k) ≡ Some c)
there W s k h = go (find_class W (name_at W k)) refl
  where
    go : (o : Option ClassFacts) → find_class W (name_at W k) ≡ o → (c : ClassFacts) × (find_class W (name_at W k) ≡ Some c)
    go (Some c) e = (c, e)
    go None e = absurd (let z : true ≡ false = ap is_some (sym (id_of-name_at W k s.differ h)) ∙ id-find W (name_at W k) ∙ ap is_some e in cc)

-- what the superclass leads to
from_super : (W : World) (m : ℕ) (o : Option Bytes) → of_super (descend W [] [] chain_step m) o ≡ walk W m (and_then (id_of W) o)
unfolding and_then
from_super W m None = refl
from_super W m (Some s) = go (id_of W s) refl
  where
    go : (i : Option ℕ) → id_of W s ≡ i → descend W [] [] chain_step m s ≡ walk W m i
    go None e = of_no_class W [] [] chain_step m s (find-None W s e)
    go (Some k) e = ap (descend W [] [] chain_step m) (sym ((id_of-Some W s k e).1))

unrolled : (W : World) (m : ℕ) (x : Bytes) (c : ClassFacts) → find_class W x ≡ Some c → descend W [] [] chain_step (suc m) x ≡ c ∷ of_super (descend W [] [] chain_step m) c.superclass
unfolding chain_step
unrolled W m x c e = descend-found W [] [] chain_step m x c e

-- one level
level : (W : World) → IsSide W → (m k : ℕ) → k < size W → (y : Bytes) → names_in (walk W (suc m) (Some k)) y ≡ (same (name_at W k) y || names_in (walk W m (superclass_of W (name_at W k))) y)
level W s m k h y =
    let t = there W s k h in
    let u : walk W (suc m) (Some k) ≡ t.0 ∷ of_super (descend W [] [] chain_step m) t.0.superclass = unrolled W m (name_at W k) t.0 t.1 in
    let v : superclass_of W (name_at W k) ≡ and_then (id_of W) t.0.superclass = super-of W (name_at W k) t.0 t.1 in
    ap (λ (cs : List ClassFacts). names_in cs y) u ∙ ap (λ (z : Bytes). same z y || names_in (of_super (descend W [] [] chain_step m) t.0.superclass) y) (find-name W (name_at W k) t.0 t.1)
    ∙ ap (λ (cs : List ClassFacts). same (name_at W k) y || names_in cs y) (from_super W m t.0.superclass ∙ ap (walk W m) (sym v))

-- names of two numbers
names_apart : (W : World) → IsSide W → (k q : ℕ) → k < size W → q < size W → same (name_at W k) (name_at W q) ≡ true → k ≡ q
names_apart W s k q h j e = let z : Some k ≡ Some q = sym (id_of-name_at W k s.differ h) ∙ ap (id_of W) (same_is (name_at W k) (name_at W q) e) ∙ id_of-name_at W q s.differ j in cc

-- ---- the loop

-- nothing is ahead
pub walked_to_end : (W : World) (x : Bytes) (left : ℕ) (seen : sorted.BTreeSet ℕ) → HasWalked W x left None seen → HasChain W x seen
walked_to_end W x left seen h = record { ordered = h.ordered; has = λ k. go (sorted.contains nat_cmp seen k) (nat_lt k (size W)) _ (h.both k) }
  where
    go : (a b c : Bool) → (a || (b && false)) ≡ c → a ≡ c
    go true b c e = e
    go false true c e = e
    go false false c e = e

pub walked_all : (W : World) (x : Bytes) (left : ℕ) (next : Option ℕ) (seen : sorted.BTreeSet ℕ) → left ≡ 0 → HasWalked W x left next seen → HasChain W x seen
walked_all W x left next seen z h = walked_to_end W x left seen (record {
  ordered = h.ordered;
  below = λ k e. absurd (cc);
  both = λ k. ap (λ (cs : List ClassFacts). sorted.contains nat_cmp seen k || (nat_lt k (size W) && names_in cs (name_at W k))) (sym (walked_out W next) ∙ ap (λ n. walk W n next) (sym z)) ∙ h.both k;
})

pub walk_starts : (W : World) (k left : ℕ) (seen : sorted.BTreeSet ℕ) → k < size W → left ≡ size W → sorted.IsOrdered nat_cmp seen → ((q : ℕ) → sorted.contains nat_cmp seen q ≡ false) → HasWalked W (name_at W k) left (Some k) seen
unfolding chain
walk_starts W k left seen h e o empty = record {
  ordered = o;
  below = λ q z. let p : k ≡ q = cc in subst (λ n. n < size W) p h;
  both = λ q. rw (empty q, e) refl;
}

-- one more class
pub walk_steps : (W : World) → IsSide W → (x : Bytes) (left more k : ℕ) (seen now : sorted.BTreeSet ℕ) → left ≡ suc more → HasWalked W x left (Some k) seen
    → sorted.Updates nat_cmp seen now k true → sorted.IsOrdered nat_cmp now → HasWalked W x more (superclass_of W (name_at W k)) now
walk_steps W s x left more k seen now e h adds o = record {
  ordered = o;
  below = λ q z. super-below W (name_at W k) q z;
  both = λ q. each q (k == q) refl (nat_lt q (size W)) refl ∙ ap (λ (b : Bool). sorted.contains nat_cmp seen q || (nat_lt q (size W) && b)) (sym (up q)) ∙ h.both q;
}
  where
    below : k < size W
    below = h.below k refl

    rest : ℕ → Bool
    rest q = names_in (walk W more (superclass_of W (name_at W k))) (name_at W q)

    up : (q : ℕ) → names_in (walk W left (Some k)) (name_at W q) ≡ (same (name_at W k) (name_at W q) || rest q)
    up q = ap (λ n. names_in (walk W n (Some k)) (name_at W q)) e ∙ level W s more k below (name_at W q)

    added : (q : ℕ) → sorted.contains nat_cmp now q ≡ cond (k == q) true (sorted.contains nat_cmp seen q)
    added q = adds.0 q ∙ ap (λ (b : Bool). cond b true (sorted.contains nat_cmp seen q)) (sym (unsigned_ties k q))

    or_itself : (a b : Bool) → b ≡ true → true ≡ (a || b)
    or_itself true b h = refl
    or_itself false b h = sym h

    other : (q : ℕ) → (k == q) ≡ false → q < size W → (b : Bool) → same (name_at W k) (name_at W q) ≡ b → b ≡ false
    other q i l true e = absurd (both_ways (k == q) i (eq-eqb k q (names_apart W s k q below l e)))
    other q i l false e = refl

    each : (q : ℕ) (i : Bool) → (k == q) ≡ i → (b : Bool) → nat_lt q (size W) ≡ b
        → (sorted.contains nat_cmp now q || (nat_lt q (size W) && rest q)) ≡ (sorted.contains nat_cmp seen q || (nat_lt q (size W) && (same (name_at W k) (name_at W q) || rest q)))
    each q true i b l =
        let w : k ≡ q = exact_unsigned_eq k q i in
        let in_it : nat_lt q (size W) ≡ true = subst (λ n. nat_lt n (size W) ≡ true) w (lt-ltb k (size W) below) in
        let it : same (name_at W k) (name_at W q) ≡ true = subst (λ n. same (name_at W k) (name_at W n) ≡ true) w (same_itself (name_at W k)) in
        ap (λ (c : Bool). c || (nat_lt q (size W) && rest q)) (added q ∙ ap (λ (c : Bool). cond c true (sorted.contains nat_cmp seen q)) i)
        ∙ or_itself (sorted.contains nat_cmp seen q) (nat_lt q (size W) && (same (name_at W k) (name_at W q) || rest q)) (rw (in_it, it) refl)
    each q false i true l =
        let apart : same (name_at W k) (name_at W q) ≡ false = other q i (ltb-true q (size W) l) (same (name_at W k) (name_at W q)) refl in
        rw (added q, i, apart) refl
    each q false i false l = rw (added q, i, l) refl
