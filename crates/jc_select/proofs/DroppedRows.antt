-- What classes drop of the interfaces that they lose.
--     absent_loser, no_loser, one_loser, next_losers, losers_of_class, losers_sorted      the classes above a class that lose something
--     taken_lost, less_more, left_drops      what is left of what the class loses
--     row_exact, none_dropped      what one class drops, in order
--     start, one_more, all_classes      what all of them drop
use Rattle.std.proofs.Common.{◌≡◌, ◌<◌, ◌≤◌, ◌+◌, ◌==◌, ℕ, Bool, true, false, not, cond, ◌||◌, ◌&&◌, ◌⊎◌, inl, inr, List, [], ◌∷◌, ◌++◌, append_assoc, length, get_or, map, take, refl, sym, ◌∙◌, ap, subst, Option, Some, None, is_some, nat_lt, arith}
use Rattle.std.specs.Prelude.{slice_index_or}
use Rattle.std.specs.BTreeSet as sorted
use Rattle.std.specs.List.{All, Contains, filter_map, cons_option, list_any}
use Rattle.std.specs.List.Sorted.{IsPermutation}
use Rattle.std.specs.Cmp.Lexicographic.{nat_list_cmp_total}
use Rattle.std.specs.declared.cmp.Ordering.TheVariants.{Less}
use Rattle.std.proofs.lemmas.Bool.{and_parts, and_from, lt-ltb, ltb-true}
use Rattle.std.proofs.lemmas.Cmp.{nat_cmp_total, tied_itself}
use Rattle.std.proofs.lemmas.List.{get_or_read_under, map-append, take_more}
use Rattle.std.proofs.lemmas.List.Elements.{All-append, All-from_recursion, filter_map-append, Contains-append_right}
use Rattle.std.proofs.lemmas.List.Folds.{list_any_more, list_any-append}
use Rattle.std.proofs.lemmas.List.Sorted.{All-permutation, list_any-IsPermutation}
use Rattle.std.proofs.lemmas.Map.Lookups.{exact_unsigned}
use Rattle.std.proofs.lemmas.Map.Views.{btree_set_contains_iff}
use Rattle.jc_dropped.proofs.Held.{held_loads, above_is_interface}
use Rattle.jc_dropped.specs.Dropped.{is_held, asks_for, has_lost, loses_interface, loses_above, is_dropped, IsDropped, dropped_order}
use Rattle.jc_facts.specs.declared.dropped.Dropped.{Dropped}
use Rattle.jc_facts.specs.Exactly.{Before, NamesRise, HasExactly}
use Rattle.jc_facts.specs.Flags.{interface_flag}
use Rattle.jc_facts.specs.Names.{Bytes}
use Rattle.jc_facts.specs.declared.class_facts.ClassFacts.{ClassFacts}
use Rattle.jc_facts.specs.declared.link_error.LinkError.TheVariants.{NoClassDefFoundError}
use Rattle.jc_facts.specs.world.Hierarchy.{is_superinterface}
use Rattle.jc_facts.specs.world.Search.{supers, supers_of}
use Rattle.jc_facts.specs.world.World.{World, find_class, size}
use Rattle.jc_facts.proofs.Exact.{Gives}
use Rattle.jc_facts.proofs.Exactly.{OfNames, grown_start, grown_more, grown_all}
use Rattle.jc_facts.proofs.InOrder.{exact_given, exact_none}
use Rattle.jc_facts.proofs.Options.{some_where-is}
use Rattle.jc_facts.specs.Options.{some_and, some_where}
use Rattle.jc_worlds.proofs.Absent.{load_fault-absent}
use Rattle.jc_index.proofs.Numbers.{find-None, id_of-Some, names-in, names-length, names-rise, number_of}
use Rattle.jc_lemmas.proofs.Listed.{here, there, none, cases, each_from}
use Rattle.jc_sides.proofs.Rising.{numbers-rise}
use Rattle.jc_select.proofs.SetsOf.{contains_keys, set_as}
use Rattle.jc_select.specs.declared.dropped.Loser.{Loser}
use Rattle.jc_select.specs.steps.Losing.{AreLosers, AreLosersAbove, AreSets, IsLoser, IsSetOf, dropped_at, drops_at, loses, loses_at, some_loses}
use Rattle.jc_sides.specs.Rules.{IsOf}
use Rattle.jc_sides.specs.SidesOf.{SidesOf, AreSides}
use Rattle.jc_index.specs.Ids.{name_at, names, id_of}
use Rattle.jc_index.specs.Sides.{IsSide}

-- ---- what the class of a name loses

absent_loses : (s : SidesOf) (x t : Bytes) → None ≡ id_of s.old x → loses_interface s.old s.new x t ≡ false
unfolding loses_interface
absent_loses s x t e = ap (λ b. b && has_lost s.old s.new x t) (go (is_held s.old s.new x) refl)
  where
    go : (b : Bool) → is_held s.old s.new x ≡ b → b ≡ false
    go false k = refl
    go true k = absurd (let clash : None ≡ Some NoClassDefFoundError = sym (held_loads s.old s.new x k).0 ∙ load_fault-absent s.old x (find-None s.old x (sym e)) in cc)

nil_of : (ks : List ℕ) → length ks ≡ 0 → ks ≡ []
nil_of [] e = refl
nil_of (k ∷ ks) e = absurd (omega (arith, e))

-- ---- classes that lose something

-- the class of a name that no class has
pub absent_loser : (s : SidesOf) (x : Bytes) → None ≡ id_of s.old x → IsLoser s x None
absent_loser s x e = record {
  within = All-from_recursion (λ (l : Loser). l.id < size s.old) [] tt;
  exact = λ k. sym (ap (λ b. (nat_lt k (size s.old) && b) || false) (absent_loses s x (name_at s.old k) e) ∙ nothing (nat_lt k (size s.old)));
}
  where
    nothing : (b : Bool) → ((b && false) || false) ≡ false
    nothing true = refl
    nothing false = refl

-- the set of a class, of its number or its name
pub set_at : (s : SidesOf) (sets : List (sorted.BTreeSet ℕ)) → AreSets s sets → (n m : ℕ) (set : sorted.BTreeSet ℕ) → n < size s.old → m ≡ n → set ≡ get_or sets m set → IsSetOf (loses_at s (name_at s.old n)) set
set_at s sets are n m set l q is =
    let b : m < length sets = omega (arith, l, q, are.count) in
    let e : set ≡ slice_index_or sets n (record { keys = [] }) = get_or_read_under sets m (length sets) set (record { keys = [] }) is b refl ∙ ap (λ i. slice_index_or sets i (record { keys = [] })) q in
    subst (IsSetOf (loses_at s (name_at s.old n))) (sym e) (are.each n l)

set_of : (s : SidesOf) (sets : List (sorted.BTreeSet ℕ)) → AreSets s sets → (x : Bytes) (k n : ℕ) (set : sorted.BTreeSet ℕ) → Some k ≡ id_of s.old x → n ≡ k → set ≡ get_or sets n set → IsSetOf (loses_at s x) set
set_of s sets are x k n set e q is =
    let w = id_of-Some s.old x k (sym e) in
    subst (λ (y : Bytes). IsSetOf (loses_at s y) set) w.1 (set_at s sets are k n set w.0 q is)

pub no_loser : (s : SidesOf) (sets : List (sorted.BTreeSet ℕ)) → AreSets s sets → (x : Bytes) (k n : ℕ) (set : sorted.BTreeSet ℕ) → Some k ≡ id_of s.old x → n ≡ k → set ≡ get_or sets n set → length set.keys ≡ 0 → IsLoser s x None
no_loser s sets are x k n set e q is none = record {
  within = All-from_recursion (λ (l : Loser). l.id < size s.old) [] tt;
  exact = λ i. sym (ap (λ b. b || false) (sym (h.has i) ∙ contains_keys set i ∙ ap (list_any (λ j. j == i)) (nil_of set.keys none)));
}
  where
    h : IsSetOf (loses_at s x) set
    h = set_of s sets are x k n set e q is

pub one_loser : (s : SidesOf) (x : Bytes) (k : ℕ) (l : Loser) → Some k ≡ id_of s.old x → l.id ≡ k → IsLoser s x (Some l)
one_loser s x k l e q =
    let w = id_of-Some s.old x k (sym e) in
    record {
      within = All-from_recursion (λ (l : Loser). l.id < size s.old) (l ∷ []) (subst (λ m. m < size s.old) (sym q) w.0, tt);
      exact = λ i. ap (λ (y : Bytes). loses_at s y i || false) (ap (name_at s.old) q ∙ w.1);
    }

pub no_losers : (s : SidesOf) → AreLosers s [] []
no_losers s = record { within = All-from_recursion (λ (l : Loser). l.id < size s.old) [] tt; exact = λ k. refl }

pub more_losers : (s : SidesOf) (xs ys : List Bytes) (ls ms : List Loser) → AreLosers s xs ls → AreLosers s ys ms → AreLosers s (xs ++ ys) (ls ++ ms)
more_losers s xs ys ls ms h k = record {
  within = All-append (λ (l : Loser). l.id < size s.old) ls ms h.within k.within;
  exact = λ i.
      list_any-append (λ (l : Loser). loses_at s (name_at s.old l.id) i) ls ms
      ∙ ap (λ b. b || some_loses s ms i) (h.exact i) ∙ ap (λ b. list_any (λ (x : Bytes). loses_at s x i) xs || b) (k.exact i)
      ∙ sym (list_any-append (λ (x : Bytes). loses_at s x i) xs ys);
}

-- the next of these names
pub next_losers : (s : SidesOf) (xs names : List Bytes) (i : ℕ) (x : Bytes) (ls ms now : List Loser) → i < length names → x ≡ get_or names i x → AreLosers s (xs ++ take i names) ls → AreLosers s (x ∷ []) ms → now ≡ ls ++ ms
    → AreLosers s (xs ++ take (i + 1) names) now
next_losers s xs names i x ls ms now l is h k e =
    subst (AreLosers s (xs ++ take (i + 1) names)) (sym e)
    (subst (λ ys. AreLosers s ys (ls ++ ms)) (append_assoc xs (take i names) (x ∷ []) ∙ ap (λ ys. xs ++ ys) (ap (λ y. take i names ++ y ∷ []) is ∙ sym (take_more names i x l)))
    (more_losers s (xs ++ take i names) (x ∷ []) ls ms h k))

-- those above a class
pub losers_of_class : (s : SidesOf) (x : Bytes) (c : ClassFacts) (ls : List Loser) → Some c ≡ find_class s.old x → AreLosers s (supers_of c.superclass [] ++ c.interfaces) ls → AreLosersAbove s x ls
losers_of_class s x c ls f h = record { within = h.within; exact = λ k. h.exact k ∙ ap (list_any (λ (y : Bytes). loses_at s y k)) (whole c.superclass) ∙ below k (nat_lt k (size s.old)) refl }
  where
    whole : (o : Option Bytes) → (supers_of o [] ++ c.interfaces) ≡ supers_of o c.interfaces
    whole None = refl
    whole (Some y) = refl

    never : (k : ℕ) (ys : List Bytes) → list_any (λ (y : Bytes). false && loses s y (name_at s.old k)) ys ≡ false
    never k [] = refl
    never k (y ∷ ys) = never k ys

    below : (k : ℕ) (b : Bool) → nat_lt k (size s.old) ≡ b → list_any (λ (y : Bytes). nat_lt k (size s.old) && loses s y (name_at s.old k)) (supers c) ≡ (nat_lt k (size s.old) && loses_above s.old s.new x (name_at s.old k))
    below k true e = rw e (ap (some_and (λ (d : ClassFacts). list_any (λ (y : Bytes). loses s y (name_at s.old k)) (supers d))) f)
    below k false e = rw e (never k (supers c))

pub losers_sorted : (s : SidesOf) (x : Bytes) (ls ms : List Loser) → IsPermutation ls ms → AreLosersAbove s x ls → AreLosersAbove s x ms
losers_sorted s x ls ms p h = record {
  within = All-permutation (λ (l : Loser). l.id < size s.old) ls ms p h.within;
  exact = λ k. sym (list_any-IsPermutation (λ (l : Loser). loses_at s (name_at s.old l.id) k) ls ms p) ∙ h.exact k;
}

-- ---- what is left

-- what the next of the classes loses
pub taken_lost : (s : SidesOf) (sets : List (sorted.BTreeSet ℕ)) → AreSets s sets → (ls : List Loser) → All (λ (l : Loser). l.id < size s.old) ls → (i : ℕ) (l : Loser) → i < length ls → l ≡ get_or ls i l
    → (n : ℕ) (set : sorted.BTreeSet ℕ) → n ≡ l.id → set ≡ get_or sets n set → IsSetOf (loses_at s (name_at s.old l.id)) set
taken_lost s sets are ls within i l b is n set q at = set_at s sets are l.id n set (subst (λ (m : Loser). m.id < size s.old) (sym is) (within i l b)) q at

-- one more class whose losses are taken out
pub less_none : (s : SidesOf) (test : ℕ → Bool) (ls : List Loser) (set : sorted.BTreeSet ℕ) → IsSetOf test set → IsSetOf (λ k. test k && not (some_loses s (take 0 ls) k)) set
less_none s test ls set h = set_as test (λ k. test k && not (some_loses s (take 0 ls) k)) set (λ k. go (test k)) h
  where
    go : (b : Bool) → b ≡ (b && true)
    go true = refl
    go false = refl

pub less_more : (s : SidesOf) (test : ℕ → Bool) (ls : List Loser) (i : ℕ) (l : Loser) (set : sorted.BTreeSet ℕ) → i < length ls → l ≡ get_or ls i l
    → IsSetOf (λ k. (test k && not (some_loses s (take i ls) k)) && not (loses_at s (name_at s.old l.id) k)) set → IsSetOf (λ k. test k && not (some_loses s (take (i + 1) ls) k)) set
less_more s test ls i l set b is h = set_as (λ k. (test k && not (some_loses s (take i ls) k)) && not (loses_at s (name_at s.old l.id) k)) (λ k. test k && not (some_loses s (take (i + 1) ls) k)) set one h
  where
    both : (t a c : Bool) → ((t && not a) && not c) ≡ (t && not (a || c))
    both true true c = refl
    both true false c = refl
    both false a c = refl

    one : (k : ℕ) → ((test k && not (some_loses s (take i ls) k)) && not (loses_at s (name_at s.old l.id) k)) ≡ (test k && not (some_loses s (take (i + 1) ls) k))
    one k =
        both (test k) (some_loses s (take i ls) k) (loses_at s (name_at s.old l.id) k)
        ∙ ap (λ (m : Loser). test k && not (some_loses s (take i ls) k || loses_at s (name_at s.old m.id) k)) is
        ∙ ap (λ b. test k && not b) (sym (list_any_more (λ (m : Loser). loses_at s (name_at s.old m.id) k) ls i l b))

-- what a class drops
pub left_drops : (s : SidesOf) (x : Bytes) (ls : List Loser) (set : sorted.BTreeSet ℕ) → AreLosersAbove s x ls → IsSetOf (λ k. loses_at s x k && not (some_loses s ls k)) set → IsSetOf (drops_at s x) set
unfolding is_dropped
left_drops s x ls set above h = set_as (λ k. loses_at s x k && not (some_loses s ls k)) (drops_at s x) set (λ k. ap (λ b. loses_at s x k && not b) (above.exact k) ∙ go (nat_lt k (size s.old)) (loses s x (name_at s.old k)) (loses_above s.old s.new x (name_at s.old k))) h
  where
    go : (b l a : Bool) → ((b && l) && not (b && a)) ≡ (b && (l && not a))
    go true l a = refl
    go false l a = refl

-- ---- one that is dropped

abbrev made : Bytes → Bytes → Dropped
made x t = record { «class» = x; interface = t }

pub listed : (s : SidesOf) (x t y u : Bytes) → is_dropped s.old s.new x t ≡ true → y ≡ x → u ≡ t → Some (made y u) ≡ dropped_at s x t
listed s x t y u d p q =
    ap (λ (z : Bytes). Some (made z u)) p ∙ ap (λ (z : Bytes). Some (made x z)) q
    ∙ sym (ap (λ b. cond b (Some (made x t)) None) d)

-- what is dropped is lost
pub dropped_loses : (s : SidesOf) (x t : Bytes) → is_dropped s.old s.new x t ≡ true → loses s x t ≡ true
unfolding is_dropped
dropped_loses s x t h = (and_parts (loses_interface s.old s.new x t) _ h).0

-- and is of a class of the old side that loads, and an interface of that side
pub lost_there : (s : SidesOf) (x t : Bytes) → loses s x t ≡ true → is_some (find_class s.old t) ≡ true
unfolding loses_interface has_lost
lost_there s x t h =
    let a = and_parts (is_held s.old s.new x) (has_lost s.old s.new x t) h in
    let b = and_parts (asks_for s.old s.new x t && is_superinterface s.old x t) (not (is_superinterface s.new x t)) a.1 in
    there (find_class s.old t) (above_is_interface s.old x t (held_loads s.old s.new x a.0).0 (and_parts (asks_for s.old s.new x t) (is_superinterface s.old x t) b.0).1)
  where
    there : (o : Option ClassFacts) → some_and (λ (d : ClassFacts). interface_flag d.flags) o ≡ true → is_some o ≡ true
    there (Some d) e = refl
    there None e = absurd (cc)

-- ---- what one class drops

module _ (s : SidesOf) (side : IsSide s.old) (n : ℕ) (set : sorted.BTreeSet ℕ) (h : IsSetOf (drops_at s (name_at s.old n)) set) where
  abbrev x : Bytes
  x = name_at s.old n

  -- what the set has
  pub record IsOne (k : ℕ) : Type 0 where
    pub below : k < size s.old
    pub dropped : is_dropped s.old s.new x (name_at s.old k) ≡ true

  is_one : (k : ℕ) → Contains set.keys k → IsOne k
  is_one k c =
      let a : drops_at s x k ≡ true = sym (h.has k) ∙ (btree_set_contains_iff nat_cmp_total exact_unsigned set k).1 c in
      let p = and_parts (nat_lt k (size s.old)) (is_dropped s.old s.new x (name_at s.old k)) a in
      record { below = ltb-true k (size s.old) p.0; dropped = p.1 }

  pub one_at_step : (front rest : List ℕ) (k : ℕ) → set.keys ≡ front ++ k ∷ rest → IsOne k
  one_at_step front rest k e = is_one k (subst (λ (ks : List ℕ). Contains ks k) (sym e) (Contains-append_right front (k ∷ rest) k (here k rest)))

  in_map : (ks : List ℕ) (k : ℕ) → Contains ks k → Contains (map (name_at s.old) ks) (name_at s.old k)
  in_map [] k c = absurd (none k c)
  in_map (q ∷ ks) k c = go (cases q ks k c) (in_map ks k)
    where
      go : (q ≡ k) ⊎ Contains ks k → (Contains ks k → Contains (map (name_at s.old) ks) (name_at s.old k)) → Contains (name_at s.old q ∷ map (name_at s.old) ks) (name_at s.old k)
      go (inl is) r = subst (λ m. Contains (name_at s.old q ∷ map (name_at s.old) ks) (name_at s.old m)) is (here (name_at s.old q) (map (name_at s.old) ks))
      go (inr d) r = there (name_at s.old k) (name_at s.old q) (map (name_at s.old) ks) (r d)

  -- each interface that the class drops is in it
  in_set : (t : Bytes) → is_dropped s.old s.new x t ≡ true → Contains (map (name_at s.old) set.keys) t
  in_set t e =
      let k = number_of s.old t (lost_there s x t (dropped_loses s x t e)) in
      let w = id_of-Some s.old t k.0 k.1 in
      let d : drops_at s x k.0 ≡ true = and_from (nat_lt k.0 (size s.old)) (is_dropped s.old s.new x (name_at s.old k.0)) (lt-ltb k.0 (size s.old) w.0) (ap (is_dropped s.old s.new x) w.1 ∙ e) in
      subst (Contains (map (name_at s.old) set.keys)) w.1 (in_map set.keys k.0 ((btree_set_contains_iff nat_cmp_total exact_unsigned set k.0).0 (h.has k.0 ∙ d)))

  taken : (b : Bool) (t : Bytes) (d : Dropped) → cond b (Some (made x t)) None ≡ Some d → (b ≡ true) × (made x t ≡ d)
  taken true t d e = (refl, cc)
  taken false t d e = absurd (let clash : None ≡ Some d = e in cc)

  says : (t : Bytes) (d : Dropped) → dropped_at s x t ≡ Some d → IsOf (λ (z : Dropped). z.«class») (IsDropped s.old s.new) x d
  says t d e =
      let p = taken (is_dropped s.old s.new x t) t d e in
      subst (IsOf (λ (z : Dropped). z.«class») (IsDropped s.old s.new) x) p.1 (refl, p.0)

  later : (t u : Bytes) (d e : Dropped) → Before t u → dropped_at s x t ≡ Some d → dropped_at s x u ≡ Some e → dropped_order d e ≡ Less
  later t u d e b p q =
      subst (λ (z : Dropped). dropped_order z e ≡ Less) (taken (is_dropped s.old s.new x t) t d p).1
      (subst (λ (z : Dropped). dropped_order (made x t) z ≡ Less) (taken (is_dropped s.old s.new x u) u e q).1
      (rw (tied_itself nat_list_cmp_total x, b) refl))

  pub row_exact : HasExactly dropped_order (IsOf (λ (d : Dropped). d.«class») (IsDropped s.old s.new) x) (filter_map (dropped_at s x) (map (name_at s.old) set.keys))
  row_exact =
      exact_given dropped_order (dropped_at s x) later (IsOf (λ (d : Dropped). d.«class») (IsDropped s.old s.new) x) (map (name_at s.old) set.keys)
      (numbers-rise s.old side set.keys h.ordered (each_from (λ q. q < size s.old) set.keys (λ k c. (is_one k c).below)))
      (λ t d c e. says t d e) complete
    where
      complete : (d : Dropped) → IsOf (λ (z : Dropped). z.«class») (IsDropped s.old s.new) x d → Gives (dropped_at s x) (map (name_at s.old) set.keys) d
      complete d p =
          let k : is_dropped s.old s.new x d.interface ≡ true = subst (λ (y : Bytes). is_dropped s.old s.new y d.interface ≡ true) p.0 p.1 in
          record {
            place = d.interface;
            is_in = in_set d.interface k;
            gives = ap (λ b. cond b (Some (made x d.interface)) None) k ∙ ap (λ (y : Bytes). Some (made y d.interface)) (sym p.0);
          }

-- a class that loses nothing drops nothing
pub none_dropped : (s : SidesOf) (sets : List (sorted.BTreeSet ℕ)) → AreSets s sets → (n m : ℕ) (set : sorted.BTreeSet ℕ) → n < size s.old → m ≡ n → set ≡ get_or sets m set → length set.keys ≡ 0 → (ds : List Dropped) → ds ≡ []
    → HasExactly dropped_order (IsOf (λ (d : Dropped). d.«class») (IsDropped s.old s.new) (name_at s.old n)) ds
none_dropped s sets are n m set l q is none ds z =
    subst (HasExactly dropped_order (IsOf (λ (d : Dropped). d.«class») (IsDropped s.old s.new) (name_at s.old n))) (sym z)
    (exact_none dropped_order (IsOf (λ (d : Dropped). d.«class») (IsDropped s.old s.new) (name_at s.old n)) (λ d p. never d p))
  where
    h : IsSetOf (loses_at s (name_at s.old n)) set
    h = set_at s sets are n m set l q is

    never : (d : Dropped) → IsOf (λ (d : Dropped). d.«class») (IsDropped s.old s.new) (name_at s.old n) d → ⊥
    never d p =
        let lost : loses s (name_at s.old n) d.interface ≡ true = subst (λ (y : Bytes). loses s y d.interface ≡ true) p.0 (dropped_loses s d.«class» d.interface p.1) in
        let k = number_of s.old d.interface (lost_there s (name_at s.old n) d.interface lost) in
        let w = id_of-Some s.old d.interface k.0 k.1 in
        let all : loses_at s (name_at s.old n) k.0 ≡ true = and_from (nat_lt k.0 (size s.old)) (loses s (name_at s.old n) (name_at s.old k.0)) (lt-ltb k.0 (size s.old) w.0) (ap (loses s (name_at s.old n)) w.1 ∙ lost) in
        let clash : true ≡ false = sym all ∙ sym (h.has k.0) ∙ contains_keys set k.0 ∙ ap (list_any (λ j. j == k.0)) (nil_of set.keys none) in
        cc

-- one more of its interfaces
pub row_more : (h : Bytes → Option Dropped) (O : World) (front : List ℕ) (k : ℕ) (o : Option Dropped) (ds es : List Dropped) → ds ≡ filter_map h (map (name_at O) front) → o ≡ h (name_at O k) → es ≡ ds ++ cons_option o []
    → es ≡ filter_map h (map (name_at O) (front ++ k ∷ []))
row_more h O front k o ds es e q g =
    g ∙ ap (λ (xs : List Dropped). xs ++ cons_option o []) e ∙ ap (λ (p : Option Dropped). filter_map h (map (name_at O) front) ++ cons_option p []) q
    ∙ sym (filter_map-append h (map (name_at O) front) (name_at O k ∷ [])) ∙ ap (filter_map h) (sym (map-append (name_at O) front (k ∷ [])))

-- ---- what all classes drop

module _ (s : SidesOf) (are : AreSides s) where
  rise : NamesRise (λ x. x) (names s.old)
  rise = names-rise s.old are.old_side.differ

  before : (d e : Dropped) → IsDropped s.old s.new d → IsDropped s.old s.new e → Before d.«class» e.«class» → dropped_order d e ≡ Less
  before d e p q b = rw b refl

  -- what these classes drop
  abbrev pub OfThese : List Bytes → Dropped → Type 0
  OfThese xs = OfNames (λ (d : Dropped). d.«class») (IsDropped s.old s.new) xs

  pub start : (ds : List Dropped) → ds ≡ [] → HasExactly dropped_order (OfThese []) ds
  start = grown_start dropped_order (λ (d : Dropped). d.«class») (IsDropped s.old s.new) before (names s.old) rise

  -- one more class; the table's world is the old side's
  pub one_more : (W : World) → W ≡ s.old → (n k : ℕ) (ds found es : List Dropped) → n < size W → some_where (nat_lt n (size W)) n ≡ Some k → HasExactly dropped_order (OfThese (take n (names s.old))) ds
      → HasExactly dropped_order (IsOf (λ (d : Dropped). d.«class») (IsDropped s.old s.new) (name_at s.old k)) found → es ≡ ds ++ found → HasExactly dropped_order (OfThese (take (n + 1) (names s.old))) es
  one_more W v n k ds found es l is h e g =
      grown_more dropped_order (λ (d : Dropped). d.«class») (IsDropped s.old s.new) before (names s.old) rise n ds found es (subst (λ m. n < m) (sym (names-length s.old)) (subst (λ (V : World). n < size V) v l)) h
      (subst (λ (m : ℕ). HasExactly dropped_order (IsOf (λ (d : Dropped). d.«class») (IsDropped s.old s.new) (name_at s.old m)) found) (some_where-is (nat_lt n (size W)) n k is) e) g

  there_is : (d : Dropped) → IsDropped s.old s.new d → Contains (names s.old) d.«class»
  unfolding loses_interface
  there_is d p = go (find_class s.old d.«class») refl
    where
      held : is_held s.old s.new d.«class» ≡ true
      held = (and_parts (is_held s.old s.new d.«class») (has_lost s.old s.new d.«class» d.interface) (dropped_loses s d.«class» d.interface p)).0

      go : (o : Option ClassFacts) → find_class s.old d.«class» ≡ o → Contains (names s.old) d.«class»
      go None f = absurd (let clash : None ≡ Some NoClassDefFoundError = sym (held_loads s.old s.new d.«class» held).0 ∙ load_fault-absent s.old d.«class» f in cc)
      go (Some c) f = names-in s.old d.«class» (ap is_some f)

  pub all_classes : (W : World) → W ≡ s.old → (n : ℕ) (ds : List Dropped) → size W ≤ n → HasExactly dropped_order (OfThese (take n (names s.old))) ds → HasExactly dropped_order (IsDropped s.old s.new) ds
  all_classes W v n ds l h =
      grown_all dropped_order (λ (d : Dropped). d.«class») (IsDropped s.old s.new) before (names s.old) rise n ds (subst (λ m. m ≤ n) (sym (names-length s.old)) (subst (λ (V : World). size V ≤ n) v l)) there_is h
