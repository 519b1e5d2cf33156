-- Which interfaces classes have lost, by numbers of classes.
--     AreDone P done xs      each of the first so many has its thing, in order
--     AreRowsOf W test rows      each class has a row of the numbers of those that pass the test beside it
--     AreMarks W test marks      each class has a mark, which tells whether its number passes the test
--     AreSet test to before after      marks that were set, of those that pass the test
--     IsSetOf test set      the set has the numbers that pass the test
use Rattle.std.specs.Prelude.{ℕ, nat_lt, ◌<◌, ◌≡◌, ◌==◌, ◌||◌, ◌&&◌, cond, Bool, false, not, List, [], length, slice_index_or, ◌∷◌, Option, None, Some}
use Rattle.std.specs.BTreeSet as sorted
use Rattle.std.specs.List.{All, cons_option, list_any}
use Rattle.std.specs.Ordering.{nat_cmp}
use Rattle.jc_dropped.specs.Dropped.{is_exposed_to_some, loses_interface, loses_above, is_dropped}
use Rattle.jc_facts.specs.declared.dropped.Dropped.{Dropped}
use Rattle.jc_facts.specs.Names.{Bytes}
use Rattle.jc_facts.specs.Options.{some_and}
use Rattle.jc_promises.specs.rule.Bases.{is_steady}
use Rattle.jc_promises.specs.rule.Exposed.{is_hidden}
use Rattle.jc_facts.specs.world.Loading.{loads}
use Rattle.jc_facts.specs.world.Assignment.{is_interface_of}
use Rattle.jc_facts.specs.world.Hierarchy.{is_superinterface}
use Rattle.jc_facts.specs.world.World.{World, size}
use Rattle.jc_select.specs.declared.dropped.Loser.{Loser}
use Rattle.jc_select.specs.declared.losing.Lost.{Lost}
use Rattle.jc_sides.specs.SidesOf.{SidesOf}
use Rattle.jc_index.specs.Ids.{name_at, id_of}

-- ---- a thing for each class

-- each of the first so many numbers has its thing
pub record AreDone {A : Type 0} (default : A) (P : ℕ → A → Type 0) (done : ℕ) (xs : List A) : Type 0 where
  pub count : length xs ≡ done
  pub each : (n : ℕ) → n < done → P n (slice_index_or xs n default)

-- the mark of the class of number n
abbrev pub mark_at : List Bool → ℕ → Bool
mark_at marks n = slice_index_or marks n false

-- each class has a mark, which tells whether its number passes the test
abbrev pub AreMarks : World → (ℕ → Bool) → List Bool → Type 0
AreMarks W test marks = AreDone false (λ n b. b ≡ test n) (size W) marks

-- no mark is set
abbrev pub AreClear : List Bool → Type 0
AreClear marks = (n : ℕ) → mark_at marks n ≡ false

-- the marks of the numbers that pass the test are set so, and the others are as before
pub record AreSet (test : ℕ → Bool) (to : Bool) (before after : List Bool) : Type 0 where
  pub count : length after ≡ length before
  pub each : (n : ℕ) → n < length before → mark_at after n ≡ cond (test n) to (mark_at before n)

-- these are the numbers of the names that pass the test, in any order, and maybe twice
pub record AreNumbersOf (W : World) (test : Bytes → Bool) (ids : List ℕ) : Type 0 where
  pub within : All (λ n. n < size W) ids
  pub exact : (n : ℕ) → n < size W → list_any (λ i. i == n) ids ≡ test (name_at W n)

-- the row of the class of number n
abbrev pub row_at : List (List ℕ) → ℕ → List ℕ
row_at rows n = slice_index_or rows n []

-- each class has a row of the numbers of those names that pass the test beside its own
abbrev pub AreRowsOf : World → (Bytes → Bytes → Bool) → List (List ℕ) → Type 0
AreRowsOf W test rows = AreDone [] (λ n row. AreNumbersOf W (test (name_at W n)) row) (size W) rows

-- ---- what classes lost

-- the new side's class of the name of the old one of this number is marked
abbrev pub is_marked_now : SidesOf → List Bool → ℕ → Bool
is_marked_now s marks of = some_and (mark_at marks) (id_of s.new (name_at s.old of))

-- for t clients may ask of some class: it is steady, or hidden, and an interface on the new side
abbrev pub may_ask : SidesOf → Bytes → Bool
may_ask s t = is_steady s.old s.new t || (is_hidden s.old t && is_interface_of s.new t)

-- for the interface of this number clients may ask, and it isn't marked on the new side
abbrev pub has_left : SidesOf → List Bool → ℕ → Bool
has_left s above of = not (is_marked_now s above of) && may_ask s (name_at s.old of)

-- such a t is above the class x on the old side, and not on the new
abbrev pub has_gone : SidesOf → Bytes → Bytes → Bool
has_gone s x t = may_ask s t && is_superinterface s.old x t && not (is_superinterface s.new x t)

-- and x loads on both sides
abbrev pub lost_at : SidesOf → Bytes → Bytes → Bool
lost_at s x t = loads s.old x && loads s.new x && has_gone s x t

-- clients that hold values of x can ask them for t, too
abbrev pub loses : SidesOf → Bytes → Bytes → Bool
loses s x t = loses_interface s.old s.new x t

-- ---- hidden classes among them

-- the number is in one of the rows
abbrev pub is_in_some : List (List ℕ) → ℕ → Bool
is_in_some rows n = list_any (λ row. list_any (λ i. i == n) row) rows

-- the class of number n is hidden, and something is in its row, or it is in one
abbrev pub is_asked : SidesOf → List (List ℕ) → ℕ → Bool
is_asked s rows n = is_hidden s.old (name_at s.old n) && (not (length (row_at rows n) == 0) || is_in_some rows n)

-- and a member exposes it to the clients of some seat
abbrev pub is_found : SidesOf → List (List ℕ) → ℕ → Bool
is_found s rows n = is_asked s rows n && is_exposed_to_some s.old s.new (name_at s.old n)

-- for each class there is a row of what it has lost, and a mark that tells whether it is hidden and has lost something or is lost
pub record AreLost (s : SidesOf) (l : Lost) : Type 0 where
  pub rows : AreRowsOf s.old (lost_at s) l.rows.items
  pub hidden : AreMarks s.old (is_asked s l.rows.items) l.hidden.items

-- those marks
abbrev pub hidden_of : Lost → List Bool
hidden_of l = l.hidden.items

-- ---- sets of numbers

-- the set has the numbers that pass the test
pub record IsSetOf (test : ℕ → Bool) (set : sorted.BTreeSet ℕ) : Type 0 where
  pub ordered : sorted.IsOrdered nat_cmp set
  pub has : (k : ℕ) → sorted.contains nat_cmp set k ≡ test k

-- the set has the number too now, where that is wanted
pub record IsPut (id : ℕ) (wanted : Bool) (before after : sorted.BTreeSet ℕ) : Type 0 where
  pub ordered : sorted.IsOrdered nat_cmp before → sorted.IsOrdered nat_cmp after
  pub has : (k : ℕ) → sorted.contains nat_cmp after k ≡ (sorted.contains nat_cmp before k || ((id == k) && wanted))

-- k is the number of an interface that the class x loses
abbrev pub loses_at : SidesOf → Bytes → ℕ → Bool
loses_at s x k = nat_lt k (size s.old) && loses s x (name_at s.old k)

-- each class has the set of the numbers of what it loses
abbrev pub AreSets : SidesOf → List (sorted.BTreeSet ℕ) → Type 0
AreSets s sets = AreDone (record { keys = [] }) (λ n set. IsSetOf (loses_at s (name_at s.old n)) set) (size s.old) sets

-- ---- what is dropped

-- one of these classes loses the interface of number k
abbrev pub some_loses : SidesOf → List Loser → ℕ → Bool
some_loses s ls k = list_any (λ l. loses_at s (name_at s.old l.id) k) ls

-- these classes lose what the classes of these names lose
pub record AreLosers (s : SidesOf) (xs : List Bytes) (ls : List Loser) : Type 0 where
  pub within : All (λ l. l.id < size s.old) ls
  pub exact : (k : ℕ) → some_loses s ls k ≡ list_any (λ x. loses_at s x k) xs

-- the same of the class of one name, if it loses something
abbrev pub IsLoser : SidesOf → Bytes → Option Loser → Type 0
IsLoser s x o = AreLosers s (x ∷ []) (cons_option o [])

-- and of those that x names above itself
pub record AreLosersAbove (s : SidesOf) (x : Bytes) (ls : List Loser) : Type 0 where
  pub within : All (λ l. l.id < size s.old) ls
  pub exact : (k : ℕ) → some_loses s ls k ≡ (nat_lt k (size s.old) && loses_above s.old s.new x (name_at s.old k))

-- k is the number of an interface that the class x drops
abbrev pub drops_at : SidesOf → Bytes → ℕ → Bool
drops_at s x k = nat_lt k (size s.old) && is_dropped s.old s.new x (name_at s.old k)

-- the class and the interface, where the class drops it
abbrev pub dropped_at : SidesOf → Bytes → Bytes → Option Dropped
dropped_at s x t = cond (is_dropped s.old s.new x t) (Some (record { «class» = x; interface = t })) None
