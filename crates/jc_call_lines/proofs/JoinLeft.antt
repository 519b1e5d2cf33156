-- Which classes were left, and which stand below them.
use Rattle.std.proofs.Common.{◌≡◌, ◌<◌, ◌≤◌, ◌+◌, ◌++◌, ℕ, Bool, true, false, ◌&&◌, ◌||◌, List, [], ◌∷◌, length, map, take, refl, sym, ◌∙◌, ap, subst, Option, Some, nat_lt, ◌⊎◌, inl, inr}
use Rattle.std.specs.List.{All, Contains, list_any, filter_map, cons_option}
use Rattle.std.proofs.lemmas.List.{map-append, take_all}
use Rattle.std.proofs.lemmas.List.Elements.{All-from_recursion, recursion_from_All, All-contains}
use Rattle.std.proofs.lemmas.List.Folds.{list_any_more}
use Rattle.jc_acts.specs.Touched.{AreFlags, AreSet, flag_at, left_chain_of}
use Rattle.jc_acts.proofs.LostChains.{set_as}
use Rattle.jc_acts.proofs.SetFlags.{none_set}
use Rattle.jc_exposed.specs.declared.exposed.Exposed.{Exposed}
use Rattle.jc_facts.specs.Names.{Bytes}
use Rattle.jc_facts.specs.Options.{some_where}
use Rattle.jc_facts.specs.world.Hierarchy.{in_chain}
use Rattle.jc_facts.specs.world.World.{World, size, classes, differ_by_name}
use Rattle.jc_facts.proofs.Exact.{given, given_back, Gives}
use Rattle.jc_facts.proofs.Options.{some_where-is}
use Rattle.jc_index.specs.Ids.{name_at, names, id_of}
use Rattle.jc_index.proofs.Numbers.{names-length, id_of-name_at, at-in}
use Rattle.jc_lemmas.proofs.Bools.{or_assoc}
use Rattle.jc_lemmas.proofs.Listed.{EachOf, EachOf-append, any_has, each_from, none, cases, here, there}
use Rattle.jc_sides.specs.SidesOf.{SidesOf}
use Rattle.jc_sides.proofs.ByClass.{step, whole}
use Rattle.jc_sides.proofs.ItemRules.{made_where}
use Rattle.jc_call_lines.specs.steps.JoinLines.{AreBelow, AreMet, IsCovered, IsServed, is_below, is_left, is_losing, left_by}

-- ---- flags of those that were left

pub by_loser : (s : SidesOf) (x : Bytes) (before after : List Bool) → is_losing s x ≡ true → AreSet s.old (λ t. left_chain_of s t x) before after → AreSet s.old (λ t. left_by s t x) before after
by_loser s x before after h set = set_as s.old (λ t. left_chain_of s t x) (λ t. left_by s t x) before after (λ t. sym (ap (λ b. b && left_chain_of s t x) h)) set

pub by_other : (s : SidesOf) (x : Bytes) (flags : List Bool) → length flags ≡ size s.old → is_losing s x ≡ false → AreSet s.old (λ t. left_by s t x) flags flags
by_other s x flags e h = none_set s.old (λ t. left_by s t x) flags e (λ t. ap (λ b. b && left_chain_of s t x) h)

-- flags that are set one after the other
set_then : (W : World) (p q : Bytes → Bool) (before flags after : List Bool) → AreSet W p before flags → AreSet W q flags after → AreSet W (λ y. p y || q y) before after
set_then W p q before flags after a b = record {
  count = b.count;
  each = λ n l. b.each n l ∙ ap (λ f. f || q (name_at W n)) (a.each n l) ∙ or_assoc (flag_at before n) (p (name_at W n)) (q (name_at W n));
}

-- one of the first n classes has lost it
abbrev pub left_by_first : SidesOf → ℕ → Bytes → Bool
left_by_first s n t = list_any (left_by s t) (take n (names s.old))

pub left_start : (s : SidesOf) (flags : List Bool) → length flags ≡ size s.old → AreSet s.old (left_by_first s 0) flags flags
left_start s flags e = none_set s.old (left_by_first s 0) flags e (λ t. refl)

pub left_next : (s : SidesOf) (n : ℕ) (before flags after : List Bool) → n < size s.old → AreSet s.old (left_by_first s n) before flags → AreSet s.old (λ t. left_by s t (name_at s.old n)) flags after → AreSet s.old (left_by_first s (n + 1)) before after
left_next s n before flags after l a b =
    set_as s.old (λ t. left_by_first s n t || left_by s t (name_at s.old n)) (left_by_first s (n + 1)) before after
    (λ t. sym (list_any_more (left_by s t) (names s.old) n [] (subst (λ m. n < m) (sym (names-length s.old)) l)))
    (set_then s.old (left_by_first s n) (λ t. left_by s t (name_at s.old n)) before flags after a b)

-- no flag was set before
pub left_all : (s : SidesOf) (n : ℕ) (before flags : List Bool) → size s.old ≤ n → ((k : ℕ) → flag_at before k ≡ false) → AreSet s.old (left_by_first s n) before flags → AreFlags s.old (is_left s) flags
left_all s n before flags l clear a = record {
  count = a.count;
  each = λ k i. a.each k i ∙ ap (λ b. b || left_by_first s n (name_at s.old k)) (clear k) ∙ ap (list_any (left_by s (name_at s.old k))) (take_all n (names s.old) (subst (λ m. m ≤ n) (sym (names-length s.old)) l));
}

-- ---- numbers of classes that pass a test

-- the numbers below n that pass, in order
pub record ArePassing (W : World) (p : Bytes → Bool) (n : ℕ) (ks : List ℕ) : Type 0 where
  pub within : All (λ k. k < size W) ks
  pub names : map (name_at W) ks ≡ filter_map (λ x. some_where (p x) x) (take n (names W))

named_more : (W : World) (ks : List ℕ) (b : Bool) (k : ℕ) → map (name_at W) (ks ++ cons_option (some_where b k) []) ≡ map (name_at W) ks ++ cons_option (some_where b (name_at W k)) []
named_more W ks true k = map-append (name_at W) ks (k ∷ [])
named_more W ks false k = map-append (name_at W) ks []

within_more : (W : World) (ks : List ℕ) (b : Bool) (k : ℕ) → k < size W → All (λ k. k < size W) ks → All (λ k. k < size W) (ks ++ cons_option (some_where b k) [])
within_more W ks b k l h = All-from_recursion (λ k. k < size W) (ks ++ cons_option (some_where b k) []) (EachOf-append (λ k. k < size W) ks (cons_option (some_where b k) []) (recursion_from_All (λ k. k < size W) ks h) (go b))
  where
    go : (b : Bool) → EachOf (λ k. k < size W) (cons_option (some_where b k) [])
    go true = (l, tt)
    go false = tt

pub passing_start : (W : World) (p : Bytes → Bool) (ks : List ℕ) → ks ≡ [] → ArePassing W p 0 ks
passing_start W p ks e = record { within = subst (All (λ k. k < size W)) (sym e) (All-from_recursion (λ k. k < size W) [] tt); names = ap (map (name_at W)) e }

pub passing_more : (W : World) (p : Bytes → Bool) (n k : ℕ) (ks more : List ℕ) (o : Option ℕ) → n < size W → some_where (nat_lt n (size W)) n ≡ Some k → ArePassing W p n ks → o ≡ some_where (p (name_at W k)) k → more ≡ ks ++ cons_option o [] → ArePassing W p (n + 1) more
passing_more W p n k ks more o l is h e g =
    let same : k ≡ n = some_where-is (nat_lt n (size W)) n k is in
    let all : more ≡ ks ++ cons_option (some_where (p (name_at W n)) n) [] = g ∙ ap (λ o. ks ++ cons_option o []) (e ∙ ap (λ m. some_where (p (name_at W m)) m) same) in
    record {
      within = subst (All (λ k. k < size W)) (sym all) (within_more W ks (p (name_at W n)) n l h.within);
      names = step (λ x. some_where (p x) x) W n (map (name_at W) ks) (map (name_at W) more) (some_where (p (name_at W n)) (name_at W n)) l h.names refl (ap (map (name_at W)) all ∙ named_more W ks (p (name_at W n)) n);
    }

pub passing_all : (W : World) (p : Bytes → Bool) (n : ℕ) (ks : List ℕ) → size W ≤ n → ArePassing W p n ks → map (name_at W) ks ≡ filter_map (λ x. some_where (p x) x) (names W)
passing_all W p n ks l h = whole (λ x. some_where (p x) x) W n (map (name_at W) ks) l h.names

-- ---- those of all that pass

-- a number whose name stands among the names of these is one of them
named_in : (W : World) → differ_by_name (classes W) ≡ true → (ks : List ℕ) (k : ℕ) → All (λ k. k < size W) ks → k < size W → Contains (map (name_at W) ks) (name_at W k) → Contains ks k
named_in W d ks k h l c = go ks (recursion_from_All (λ k. k < size W) ks h) c
  where
    one : (j : ℕ) → j < size W → name_at W j ≡ name_at W k → j ≡ k
    one j m e = let z : Some j ≡ Some k = sym (id_of-name_at W j d m) ∙ ap (id_of W) e ∙ id_of-name_at W k d l in cc

    go : (ks : List ℕ) → EachOf (λ k. k < size W) ks → Contains (map (name_at W) ks) (name_at W k) → Contains ks k
    go [] h c = absurd (none (name_at W k) c)
    go (j ∷ js) h c = by (cases (name_at W j) (map (name_at W) js) (name_at W k) c) (go js h.1)
      where
        by : (name_at W j ≡ name_at W k) ⊎ Contains (map (name_at W) js) (name_at W k) → (Contains (map (name_at W) js) (name_at W k) → Contains js k) → Contains (j ∷ js) k
        by (inl e) r = subst (Contains (j ∷ js)) (one j h.0 e) (here j js)
        by (inr q) r = there k j js (r q)

name_in : (W : World) (k : ℕ) → k < size W → Contains (names W) (name_at W k)
name_in W k l = at-in (names W) k (subst (λ m. k < m) (sym (names-length W)) l)

-- each that passes is one of them
pub passes_in : (W : World) → differ_by_name (classes W) ≡ true → (p : Bytes → Bool) (ks : List ℕ) → All (λ k. k < size W) ks → map (name_at W) ks ≡ filter_map (λ x. some_where (p x) x) (names W) → (k : ℕ) → k < size W → p (name_at W k) ≡ true → Contains ks k
passes_in W d p ks h e k l t =
    named_in W d ks k h l (subst (λ xs. Contains xs (name_at W k)) (sym e)
    (given (λ x. some_where (p x) x) (names W) (name_at W k) (name_at W k) (name_in W k l) (ap (λ b. some_where b (name_at W k)) t)))

-- and each of them passes
pub in_passes : (W : World) (p : Bytes → Bool) (ks : List ℕ) → map (name_at W) ks ≡ filter_map (λ x. some_where (p x) x) (names W) → (k : ℕ) → Contains ks k → p (name_at W k) ≡ true
in_passes W p ks e k c =
    let g : Gives (λ x. some_where (p x) x) (names W) (name_at W k) = given_back (λ x. some_where (p x) x) (names W) (name_at W k) (subst (λ xs. Contains xs (name_at W k)) e (mapped ks c)) in
    let w = made_where (p g.place) g.place (name_at W k) g.gives in
    ap p (sym w.1) ∙ w.0
  where
    mapped : (js : List ℕ) → Contains js k → Contains (map (name_at W) js) (name_at W k)
    mapped [] i = absurd (none k i)
    mapped (j ∷ js) i = by (cases j js k i) (mapped js)
      where
        by : (j ≡ k) ⊎ Contains js k → (Contains js k → Contains (map (name_at W) js) (name_at W k)) → Contains (name_at W j ∷ map (name_at W) js) (name_at W k)
        by (inl q) r = subst (λ m. Contains (name_at W j ∷ map (name_at W) js) (name_at W m)) q (here (name_at W j) (map (name_at W) js))
        by (inr q) r = there (name_at W k) (name_at W j) (map (name_at W) js) (r q)

-- ---- what serves

-- each of those that were left is served by those that stand below one of them
pub all_served : (s : SidesOf) → differ_by_name (classes s.old) ≡ true → (ts ks : List ℕ) (e : Exposed) → AreBelow s.old ts ks → AreMet s ts e → All (IsServed s e ks) ts
all_served s d ts ks e below met = All-from_recursion (IsServed s e ks) ts (each_from (IsServed s e ks) ts one)
  where
    below_is : (k t : ℕ) → Contains ts t → in_chain s.old (name_at s.old k) (name_at s.old t) ≡ true → is_below s.old ts (name_at s.old k) ≡ true
    below_is k t c h = any_has (λ t. in_chain s.old (name_at s.old k) (name_at s.old t)) ts t c h

    covered : (k : ℕ) → k < size s.old → is_below s.old ts (name_at s.old k) ≡ true → IsCovered s.old e k
    covered k l b hidden = met.wanted k l hidden b

    one : (t : ℕ) → Contains ts t → IsServed s e ks t
    one t c = record {
      within = below.within;
      others = All-from_recursion (IsCovered s.old e) ks (each_from (IsCovered s.old e) ks (λ k i. covered k (All-contains (λ k. k < size s.old) ks k below.within i) (in_passes s.old (is_below s.old ts) ks below.names k i)));
      all = λ k l h. (passes_in s.old d (is_below s.old ts) ks below.within below.names k l (below_is k t c h), covered k l (below_is k t c h));
    }
