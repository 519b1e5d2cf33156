-- Flags of the classes of a side, and how more of them are set.
use Rattle.std.proofs.Common.{◌≡◌, ℕ, suc, ◌+◌, ◌<◌, ◌≤◌, ◌≢◌, Bool, true, false, cond, not, ◌||◌, ◌&&◌, List, [], ◌∷◌, ◌++◌, length, map, take, get_or, set, eqb, refl, sym, ◌∙◌, ap, subst, Option, Some, None, ◌⊎◌, inl, inr}
use Rattle.std.specs.Prelude.{IfSome, IsTrue}
use Rattle.std.specs.List.{list_any}
use Rattle.std.proofs.lemmas.Bool.Decides.{eqb_tells}
use Rattle.std.proofs.lemmas.List.{length-set, set-get_or, length-map, get_or-map, map-append, take_more, take_all}
use Rattle.std.proofs.Math.Bool.{or-false, and-false}
use Rattle.jc_facts.specs.declared.class_facts.ClassFacts.{ClassFacts}
use Rattle.jc_facts.specs.Names.{Bytes, same}
use Rattle.jc_facts.specs.world.World.{World, find_class, size, classes, differ_by_name}
use Rattle.jc_facts.specs.world.Hierarchy.{chain, in_chain, names_in}
use Rattle.jc_facts.proofs.Same.{same_is, same_itself}
use Rattle.jc_facts.proofs.World.{find-name}
use Rattle.jc_lemmas.proofs.Bools.{or_assoc}
use Rattle.jc_index.specs.Ids.{id_of, name_at, names, superclass_of}
use Rattle.jc_index.proofs.Numbers.{names-length, id_of-name_at}
use Rattle.jc_acts.specs.Touched.{flag_at, AreFlags, AreSet}
use Rattle.jc_acts.proofs.Covering.{put}
use Rattle.jc_acts.proofs.Upwards.{any_from, any-from, any-step, any-out, any-end}

within_or : (l n : Bool) → (l || (n && l)) ≡ l
within_or true n = refl
within_or false n = and-false n

cond_or : (b f : Bool) → cond b true f ≡ (f || (b && true))
cond_or true true = refl
cond_or true false = refl
cond_or false true = refl
cond_or false false = refl

-- a flag that is set already may be left as it is
pub set_already : (flags : List Bool) (n : ℕ) (now there : Bool) → now ≡ get_or flags n now → cond (not (now || there)) (set flags n true) flags ≡ cond (not there) (set flags n true) flags
set_already flags n false there e = refl
set_already flags n true true e = refl
set_already flags n true false e = sym (ap (λ b. set flags n b) e ∙ set-get_or flags n true)

module _ (W : World) where
  -- ---- flags of all

  pub one_more : {A : Type 0} (f : Bytes → A) (some after : List A) (n k : ℕ) (a : A) → n < size W → k ≡ n → a ≡ f (name_at W k) → after ≡ some ++ a ∷ [] → some ≡ map f (take n (names W)) → after ≡ map f (take (n + 1) (names W))
  one_more f some after n k a l is h j e =
      j ∙ ap (λ xs. xs ++ a ∷ []) e ∙ ap (λ x. map f (take n (names W)) ++ x ∷ []) (h ∙ ap (λ m. f (name_at W m)) is)
      ∙ sym (ap (map f) (take_more (names W) n [] (subst (λ m. n < m) (sym (names-length W)) l)) ∙ map-append f (take n (names W)) (name_at W n ∷ []))

  pub all_flags : (p : Bytes → Bool) (flags : List Bool) (n : ℕ) → size W ≤ n → flags ≡ map p (take n (names W)) → AreFlags W p flags
  all_flags p flags n l h = record {
    count = ap length e ∙ length-map (names W) p ∙ names-length W;
    each = λ k i. ap (λ fs. flag_at fs k) e ∙ get_or-map p (names W) k [] false (subst (λ m. k < m) (sym (names-length W)) i);
  }
    where
      e : flags ≡ map p (names W)
      e = h ∙ ap (map p) (take_all n (names W) (subst (λ m. m ≤ n) (sym (names-length W)) l))

  -- ---- more of them set

  pub flags_set : (p q : Bytes → Bool) (before after : List Bool) → AreFlags W p before → AreSet W q before after → AreFlags W (λ y. p y || q y) after
  flags_set p q before after f s = record { count = s.count; each = λ n l. s.each n l ∙ ap (λ b. b || q (name_at W n)) (f.each n l) }

  pub none_set : (q : Bytes → Bool) (flags : List Bool) → length flags ≡ size W → ((y : Bytes) → q y ≡ false) → AreSet W q flags flags
  none_set q flags e h = record { count = e; each = λ n l. sym (ap (λ b. flag_at flags n || b) (h (name_at W n)) ∙ or-false (flag_at flags n)) }

  -- ---- those of a list of tests, one after the other

  -- with what the rest sets it is what all set
  pub record AreSetBy {A : Type 0} (q : Bytes → A → Bool) (all rest : List A) (before after : List Bool) : Type 0 where
    pub count : length after ≡ size W
    pub each : (n : ℕ) → n < size W → (flag_at after n || list_any (q (name_at W n)) rest) ≡ (flag_at before n || list_any (q (name_at W n)) all)

  -- ---- those of a chain

  module _ (left : Bytes → Bool) (before : List Bool) where
    -- the class is y, and left
    abbrev leaves : Bytes → ClassFacts → Bool
    leaves y c = same c.name y && left c.name

    -- with those ahead it is the chain of x
    pub record IsSetting (x : Bytes) (after : List Bool) (m : ℕ) (next : Option ℕ) : Type 0 where
      pub there : IfSome next (λ id. id < size W)
      pub count : length after ≡ size W
      pub ahead : (n : ℕ) → n < size W → (flag_at after n || any_from W (leaves (name_at W n)) m next) ≡ (flag_at before n || list_any (leaves (name_at W n)) (chain W x))

    pub starts : (id m : ℕ) → m ≡ size W → id < size W → length before ≡ size W → IsSetting (name_at W id) before m (Some id)
    starts id m e l k = record { there = l; count = k; ahead = λ n i. ap (λ b. flag_at before n || b) (sym (any-from W (leaves (name_at W n)) id m e)) }

    any_leaves : (y : Bytes) (cs : List ClassFacts) → list_any (leaves y) cs ≡ (names_in cs y && left y)
    any_leaves y [] = refl
    any_leaves y (c ∷ cs) = go (same c.name y) refl (any_leaves y cs)
      where
        go : (b : Bool) → same c.name y ≡ b → list_any (leaves y) cs ≡ (names_in cs y && left y) → (b && left c.name || list_any (leaves y) cs) ≡ ((b || names_in cs y) && left y)
        go true e r = ap (λ z. left c.name || z) r ∙ ap (λ z. left z || (names_in cs y && left y)) (same_is c.name y e) ∙ within_or (left y) (names_in cs y)
        go false e r = r

    -- nothing is ahead
    done : (x : Bytes) (flags : List Bool) (m : ℕ) (next : Option ℕ) → ((y : Bytes) → any_from W (leaves y) m next ≡ false) → IsSetting x flags m next → AreSet W (λ y. in_chain W x y && left y) before flags
    done x flags m next h on = record {
      count = on.count;
      each = λ n l.
          sym (or-false (flag_at flags n)) ∙ ap (λ b. flag_at flags n || b) (sym (h (name_at W n))) ∙ on.ahead n l
          ∙ ap (λ b. flag_at before n || b) (any_leaves (name_at W n) (chain W x));
    }

    pub ends_at_top : (x : Bytes) (flags : List Bool) (m : ℕ) (next : Option ℕ) → next ≡ None → IsSetting x flags m next → AreSet W (λ y. in_chain W x y && left y) before flags
    ends_at_top x flags m next e on = done x flags m next (λ y. any-out W (leaves y) m next e) on

    pub ends : (x : Bytes) (flags : List Bool) (m : ℕ) (next : Option ℕ) → m ≡ 0 → IsSetting x flags m next → AreSet W (λ y. in_chain W x y && left y) before flags
    ends x flags m next e on = done x flags m next (λ y. any-end W (leaves y) m next e) on

    module _ (d : IsTrue (differ_by_name (classes W))) where
      same_at : (i k : ℕ) → i < size W → k < size W → same (name_at W i) (name_at W k) ≡ eqb i k
      same_at i k l j = go (eqb_tells i k)
        where
          other : i ≢ k → (b : Bool) → same (name_at W i) (name_at W k) ≡ b → b ≡ false
          other ne true e = absurd (let p : Some i ≡ Some k = sym (id_of-name_at W i d l) ∙ ap (id_of W) (same_is (name_at W i) (name_at W k) e) ∙ id_of-name_at W k d j in ne cc)
          other ne false e = refl

          go : ((eqb i k ≡ true) × (i ≡ k)) ⊎ ((eqb i k ≡ false) × (i ≢ k)) → same (name_at W i) (name_at W k) ≡ eqb i k
          go (inl e) = ap (λ n. same (name_at W i) (name_at W n)) (sym e.1) ∙ same_itself (name_at W i) ∙ sym e.0
          go (inr e) = other e.1 (same (name_at W i) (name_at W k)) refl ∙ sym e.0

      flag_set : (flags after : List Bool) (i k : ℕ) (c : ClassFacts) (b : Bool) → i < size W → k < size W → length flags ≡ size W → c.name ≡ name_at W i → left c.name ≡ b → after ≡ cond b (set flags i true) flags
          → flag_at after k ≡ (flag_at flags k || leaves (name_at W k) c)
      flag_set flags after i k c true l j e n h u =
          ap (λ fs. flag_at fs k) u ∙ put flags i k true false (subst (λ m. i < m) (sym e) l) ∙ cond_or (eqb i k) (flag_at flags k)
          ∙ ap (λ t. flag_at flags k || (t && true)) (sym (ap (λ y. same y (name_at W k)) n ∙ same_at i k l j)) ∙ ap (λ t. flag_at flags k || (same c.name (name_at W k) && t)) (sym h)
      flag_set flags after i k c false l j e n h u =
          ap (λ fs. flag_at fs k) u ∙ sym (or-false (flag_at flags k)) ∙ ap (λ t. flag_at flags k || t) (sym (and-false (same c.name (name_at W k)))) ∙ ap (λ t. flag_at flags k || (same c.name (name_at W k) && t)) (sym h)

      set_length : (flags : List Bool) (i : ℕ) (b : Bool) → length (cond b (set flags i true) flags) ≡ length flags
      set_length flags i true = length-set flags i true
      set_length flags i false = refl

      -- one class further up
      pub steps : (x : Bytes) (flags after : List Bool) (m n id : ℕ) (next up : Option ℕ) (c : ClassFacts) (b : Bool) → m ≡ suc n → next ≡ Some id → Some c ≡ find_class W (name_at W id) → b ≡ left c.name → after ≡ cond b (set flags id true) flags
          → IfSome up (λ k. k < size W) → up ≡ superclass_of W (name_at W id) → IsSetting x flags m next → IsSetting x after n up
      steps x flags after m n id next up c b e f l h u t v on = record {
        there = t;
        count = ap length u ∙ set_length flags id b ∙ on.count;
        ahead = λ k i.
            ap (λ z. z || any_from W (leaves (name_at W k)) n up) (flag_set flags after id k c b inside i on.count (find-name W (name_at W id) c (sym l)) (sym h) u)
            ∙ or_assoc (flag_at flags k) (leaves (name_at W k) c) (any_from W (leaves (name_at W k)) n up)
            ∙ ap (λ z. flag_at flags k || z) (ap (λ o. leaves (name_at W k) c || any_from W (leaves (name_at W k)) n o) v ∙ sym (any-step W (leaves (name_at W k)) m n id next c e f l))
            ∙ on.ahead k i;
      }
        where
          inside : id < size W
          inside = subst (λ o. IfSome o (λ k. k < size W)) f on.there
