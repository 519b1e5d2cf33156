-- The keys of the members of one kind, fields or methods, collected in a set along a walk up the superclasses.
use Rattle.std.proofs.Common.{◌≡◌, ◌<◌, ◌≤◌, ◌+◌, ℕ, suc, Bool, true, false, ◌||◌, List, [], length, get_or, drop, refl, sym, ◌∙◌, ap, subst, Option, Some, None, is_some}
use Rattle.std.specs.Prelude.{IsTrue}
use Rattle.std.specs.BTreeSet as sorted
use Rattle.std.specs.List.{Contains, list_any, find as first_where}
use Rattle.std.proofs.lemmas.List.{drop_more, drop_all}
use Rattle.std.proofs.lemmas.List.Elements.{All-weaker, All-contains_itself}
use Rattle.std.proofs.lemmas.List.Folds.{list_any-append}
use Rattle.std.proofs.lemmas.Map.Views.{btree_set_contains_iff}
use Rattle.std.proofs.Math.Bool.{or-false}
use Rattle.jc_facts.specs.declared.class_facts.ClassFacts.{ClassFacts}
use Rattle.jc_facts.specs.declared.class_facts.Member.{Member}
use Rattle.jc_facts.specs.declared.key.Key.{Key}
use Rattle.jc_facts.specs.Names.{Bytes, is_key}
use Rattle.jc_facts.specs.KeyOrder.{key_cmp, key_total}
use Rattle.jc_facts.specs.Options.{some_and}
use Rattle.jc_facts.specs.Exactly.{HasExactly}
use Rattle.jc_facts.specs.world.World.{World, find_class, size}
use Rattle.jc_facts.specs.world.Hierarchy.{chain, each, with_interfaces, interfaces_of, superinterfaces}
use Rattle.jc_worlds.specs.Hierarchy.{above}
use Rattle.jc_index.specs.Ids.{name_at, superclass_of}
use Rattle.jc_index.specs.Above.{AreAbove}
use Rattle.jc_table.specs.steps.Collecting.{Collects, declares_at, HasKeys}
use Rattle.jc_index.specs.steps.Walking.{chain_from}
use Rattle.jc_index.proofs.Walking.{from-step, from-none, from-nothing}
use Rattle.jc_index.proofs.Reached.{any_reached}
use Rattle.jc_lemmas.proofs.Bools.{or_assoc}
use Rattle.jc_lemmas.proofs.Lists.{found_any}
use Rattle.jc_facts.proofs.KeySets.{key_exact, Comes, rises}

-- ---- the keys of one class

-- the keys of these members are in the set
pub comes_all : (first now : sorted.BTreeSet Key) (ms : List Member) (i : ℕ) → length ms ≤ i → Comes now (drop i ms) first ms → Collects (λ k. is_some (first_where (is_key k) ms)) first now
comes_all first now ms i l h = λ k.
    sym (or-false (sorted.contains key_cmp now k)) ∙ ap (λ (ms : List Member). sorted.contains key_cmp now k || list_any (is_key k) ms) (sym (drop_all i ms l))
    ∙ h k ∙ ap (λ b. sorted.contains key_cmp first k || b) (found_any (is_key k) ms)

-- `own` gives the member of that kind that a class itself declares
module _ (own : ClassFacts → Key → Option Member) where
  -- ---- the keys of several classes

  abbrev pub Follows : World → sorted.BTreeSet Key → List ℕ → sorted.BTreeSet Key → List ℕ → Type 0
  Follows W now rest before all = (k : Key) → (sorted.contains key_cmp now k || list_any (declares_at own W k) rest) ≡ (sorted.contains key_cmp before k || list_any (declares_at own W k) all)

  pub follows_more : (W : World) (first before now : sorted.BTreeSet Key) (ids : List ℕ) (i id : ℕ) (c : ClassFacts) → i < length ids → id ≡ get_or ids i id → Some c ≡ find_class W (name_at W id)
      → Collects (λ k. is_some (own c k)) before now → Follows W before (drop i ids) first ids → Follows W now (drop (i + 1) ids) first ids
  follows_more W first before now ids i id c l g f a h = λ k.
      ap (λ b. b || list_any (declares_at own W k) (drop (i + 1) ids)) (a k)
      ∙ or_assoc (sorted.contains key_cmp before k) (is_some (own c k)) (list_any (declares_at own W k) (drop (i + 1) ids))
      ∙ ap (λ (o : Option ClassFacts). sorted.contains key_cmp before k || (some_and (λ c. is_some (own c k)) o || list_any (declares_at own W k) (drop (i + 1) ids))) f
      ∙ ap (λ (n : ℕ). sorted.contains key_cmp before k || (declares_at own W k n || list_any (declares_at own W k) (drop (i + 1) ids))) g
      ∙ ap (λ ns. sorted.contains key_cmp before k || list_any (declares_at own W k) ns) (sym (drop_more ids i id l)) ∙ h k

  pub follows_all : (W : World) (first now : sorted.BTreeSet Key) (ids : List ℕ) (i : ℕ) → length ids ≤ i → Follows W now (drop i ids) first ids → Collects (λ k. list_any (declares_at own W k) ids) first now
  follows_all W first now ids i l h = λ k.
      sym (or-false (sorted.contains key_cmp now k)) ∙ ap (λ (ns : List ℕ). sorted.contains key_cmp now k || list_any (declares_at own W k) ns) (sym (drop_all i ids l)) ∙ h k

  -- ---- along the walk

  -- the members of the class of this number, of those above it and of the superinterfaces that they lead to, so many classes up at most
  abbrev pub declared_up : World → Key → ℕ → Option ℕ → Bool
  declared_up W k n next = list_any (λ c. is_some (own c k)) (chain_from W n next) || list_any (λ c. is_some (own c k)) (interfaces_of W (chain_from W n next))

  -- what the set has, and what is still to come
  abbrev pub IsAhead : World → Bytes → ℕ → Option ℕ → sorted.BTreeSet Key → Type 0
  IsAhead W x left next keys = (k : Key) → (sorted.contains key_cmp keys k || declared_up W k left next) ≡ list_any (λ c. is_some (own c k)) (above W x)

  pub ahead_starts : (W : World) (a m : ℕ) (keys : sorted.BTreeSet Key) → m ≡ size W → ((k : Key) → sorted.contains key_cmp keys k ≡ false) → IsAhead W (name_at W a) m (Some a) keys
  unfolding chain chain_from superinterfaces
  ahead_starts W a m keys e h = λ k.
      ap (λ b. b || declared_up W k m (Some a)) (h k) ∙ ap (λ n. declared_up W k n (Some a)) e
      ∙ sym (list_any-append (λ c. is_some (own c k)) (chain W (name_at W a)) (superinterfaces W (name_at W a)))

  module _ (W : World) (x : Bytes) where
    up_step : (k : Key) (m n a : ℕ) (c : ClassFacts) → m ≡ suc n → find_class W (name_at W a) ≡ Some c
        → declared_up W k m (Some a) ≡ ((is_some (own c k) || list_any (λ c. is_some (own c k)) (each (with_interfaces W) c.interfaces)) || declared_up W k n (superclass_of W (name_at W a)))
    unfolding interfaces_of
    up_step k m n a c e f =
        ap (λ (cs : List ClassFacts). list_any p cs || list_any p (interfaces_of W cs)) (from-step W m n a c e f)
        ∙ ap (λ b. (p c || list_any p rest) || b) (list_any-append p (each (with_interfaces W) c.interfaces) (interfaces_of W rest))
        ∙ sides (p c) (list_any p rest) (list_any p (each (with_interfaces W) c.interfaces)) (list_any p (interfaces_of W rest))
      where
        p : ClassFacts → Bool
        p d = is_some (own d k)

        rest : List ClassFacts
        rest = chain_from W n (superclass_of W (name_at W a))

        sides : (a b c d : Bool) → ((a || b) || (c || d)) ≡ ((a || c) || (b || d))
        sides true b c d = refl
        sides false true true d = refl
        sides false true false d = refl
        sides false false c d = refl

    pub ahead_more : (m n a : ℕ) (next up : Option ℕ) (c : ClassFacts) (ids : List ℕ) (before half now : sorted.BTreeSet Key) → m ≡ suc n → next ≡ Some a → Some c ≡ find_class W (name_at W a) → AreAbove W (name_at W a) ids
        → Collects (λ k. is_some (own c k)) before half → Collects (λ k. list_any (declares_at own W k) ids) half now → up ≡ superclass_of W (name_at W a) → IsAhead W x m next before → IsAhead W x n up now
    ahead_more m n a next up c ids before half now e q f above h j u i = λ k.
        ap (λ b. b || declared_up W k n up) (j k ∙ ap (λ b. b || list_any (declares_at own W k) ids) (h k))
        ∙ ap (λ b. ((sorted.contains key_cmp before k || is_some (own c k)) || b) || declared_up W k n up) (sym (any_reached W (λ d. is_some (own d k)) (name_at W a) c (sym f) ids above))
        ∙ sides (sorted.contains key_cmp before k) (is_some (own c k)) (list_any (λ c. is_some (own c k)) (each (with_interfaces W) c.interfaces)) (declared_up W k n up)
        ∙ ap (λ (o : Option ℕ). sorted.contains key_cmp before k || ((is_some (own c k) || list_any (λ c. is_some (own c k)) (each (with_interfaces W) c.interfaces)) || declared_up W k n o)) u
        ∙ ap (λ b. sorted.contains key_cmp before k || b) (sym (up_step k m n a c e (sym f)))
        ∙ ap (λ (o : Option ℕ). sorted.contains key_cmp before k || declared_up W k m o) (sym q) ∙ i k
      where
        sides : (a b c d : Bool) → (((a || b) || c) || d) ≡ (a || ((b || c) || d))
        sides true b c d = refl
        sides false b c d = refl

    ahead_nothing : (m : ℕ) (next : Option ℕ) (keys : sorted.BTreeSet Key) → chain_from W m next ≡ [] → IsAhead W x m next keys → HasKeys own W x keys
    unfolding interfaces_of
    ahead_nothing m next keys e i = λ k.
        sym (or-false (sorted.contains key_cmp keys k))
        ∙ ap (λ (cs : List ClassFacts). sorted.contains key_cmp keys k || (list_any (λ c. is_some (own c k)) cs || list_any (λ c. is_some (own c k)) (interfaces_of W cs))) (sym e) ∙ i k

    pub ahead_top : (m : ℕ) (next : Option ℕ) (keys : sorted.BTreeSet Key) → next ≡ None → IsAhead W x m next keys → HasKeys own W x keys
    ahead_top m next keys e i = ahead_nothing m next keys (ap (chain_from W m) e ∙ from-nothing W m) i

    pub ahead_out : (m : ℕ) (next : Option ℕ) (keys : sorted.BTreeSet Key) → m ≡ 0 → IsAhead W x m next keys → HasKeys own W x keys
    ahead_out m next keys e i = ahead_nothing m next keys (ap (λ n. chain_from W n next) e ∙ from-none W next) i

  -- ---- the whole set

  pub keys_exact : (W : World) (x : Bytes) (set : sorted.BTreeSet Key) (keys : List Key) → sorted.IsOrdered key_cmp set → HasKeys own W x set → keys ≡ set.keys → HasExactly key_cmp (λ k. IsTrue (list_any (λ c. is_some (own c k)) (above W x))) keys
  keys_exact W x set keys o h e = subst (HasExactly key_cmp (λ k. IsTrue (list_any (λ c. is_some (own c k)) (above W x)))) (sym e) (record {
    in_order = rises set.keys o;
    sound = All-weaker (Contains set.keys) (λ k. IsTrue (list_any (λ c. is_some (own c k)) (above W x))) (λ k c. sym (h k) ∙ (btree_set_contains_iff key_total key_exact set k).1 c) set.keys (All-contains_itself set.keys);
    complete = λ k s. (btree_set_contains_iff key_total key_exact set k).0 (h k ∙ s);
  })
