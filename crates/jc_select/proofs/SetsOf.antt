-- Sets of the numbers that pass a test.
--     set_of_none, set_of_more, among_is      of the items of a list that pass, one after the other
--     taken_none, taken_more      less those of a list
--     keys_none, keys_more, keys_all      a copy, of one key after the other
--     without      less what another set has
use Rattle.std.proofs.Common.{◌≡◌, ◌<◌, ◌+◌, ◌==◌, ℕ, Bool, true, false, not, cond, ◌||◌, ◌&&◌, List, [], ◌∷◌, ◌++◌, length, get_or, take, refl, sym, ◌∙◌, ap}
use Rattle.std.specs.BTreeSet as sorted
use Rattle.std.specs.List.{filter, list_any}
use Rattle.std.specs.Ordering.{nat_cmp}
use Rattle.std.specs.Cmp.{both_ways, unsigned_ties}
use Rattle.std.proofs.lemmas.Bool.{eq-eqb, eqb-true}
use Rattle.std.specs.BTreeMap.{is_at}
use Rattle.std.proofs.lemmas.List.Folds.{list_any_more, list_any-append}
use Rattle.jc_select.proofs.Collected.{filtered_number}
use Rattle.jc_select.specs.steps.Losing.{IsPut, IsSetOf}

pub set_as : (p q : ℕ → Bool) (set : sorted.BTreeSet ℕ) → ((k : ℕ) → p k ≡ q k) → IsSetOf p set → IsSetOf q set
set_as p q set e h = record { ordered = h.ordered; has = λ k. h.has k ∙ e k }

-- ---- those of a list that pass a test

-- k is one of these, and passes
abbrev pub among : (ℕ → Bool) → List ℕ → ℕ → Bool
among test ids k = list_any (λ j. (j == k) && test j) ids

pub set_of_none : (test : ℕ → Bool) (ids : List ℕ) (set : sorted.BTreeSet ℕ) → sorted.IsOrdered nat_cmp set → ((k : ℕ) → sorted.contains nat_cmp set k ≡ false) → IsSetOf (among test (take 0 ids)) set
set_of_none test ids set o e = record { ordered = o; has = λ k. e k }

pub set_of_more : (test : ℕ → Bool) (ids : List ℕ) (i id : ℕ) (seen now : sorted.BTreeSet ℕ) → i < length ids → id ≡ get_or ids i id → IsPut id (test id) seen now → IsSetOf (among test (take i ids)) seen → IsSetOf (among test (take (i + 1) ids)) now
set_of_more test ids i id seen now l is put h = record { ordered = put.ordered h.ordered; has = has }
  where
    has : (k : ℕ) → sorted.contains nat_cmp now k ≡ among test (take (i + 1) ids) k
    has k =
        put.has k ∙ ap (λ b. b || ((id == k) && test id)) (h.has k)
        ∙ ap (λ n. among test (take i ids) k || ((n == k) && test n)) is
        ∙ sym (list_any_more (λ j. (j == k) && test j) ids i id l)

-- those of them that pass
pub among_is : (test : ℕ → Bool) (ids : List ℕ) (k : ℕ) → among test ids k ≡ (list_any (λ j. j == k) ids && test k)
among_is test [] k = refl
among_is test (i ∷ ids) k = go (i == k) refl (among_is test ids k)
  where
    both : (t r : Bool) → (t || (r && t)) ≡ t
    both true r = refl
    both false true = refl
    both false false = refl

    go : (b : Bool) → (i == k) ≡ b → among test ids k ≡ (list_any (λ j. j == k) ids && test k) → ((b && test i) || among test ids k) ≡ ((b || list_any (λ j. j == k) ids) && test k)
    go true e h = ap (λ n. test n || among test ids k) (eqb-true i k e) ∙ ap (λ b. test k || b) h ∙ both (test k) (list_any (λ j. j == k) ids)
    go false e h = h

-- what was put in
pub put_in : (id : ℕ) (seen now : sorted.BTreeSet ℕ) → sorted.Updates nat_cmp seen now id true → sorted.IsOrdered nat_cmp now → IsPut id true seen now
put_in id seen now adds o = record { ordered = λ _. o; has = λ k. adds.0 k ∙ ap (λ (b : Bool). cond b true (sorted.contains nat_cmp seen k)) (sym (unsigned_ties id k)) ∙ inserted (id == k) (sorted.contains nat_cmp seen k) }
  where
    inserted : (a b : Bool) → cond a true b ≡ (b || (a && true))
    inserted true true = refl
    inserted true false = refl
    inserted false true = refl
    inserted false false = refl

pub left_as_it_was : (id : ℕ) (set : sorted.BTreeSet ℕ) → IsPut id false set set
left_as_it_was id set = record { ordered = λ o. o; has = λ k. passed (id == k) (sorted.contains nat_cmp set k) }
  where
    passed : (a b : Bool) → b ≡ (b || (a && false))
    passed true true = refl
    passed true false = refl
    passed false true = refl
    passed false false = refl

-- ---- less those of a list

pub taken_none : (test : ℕ → Bool) (ids : List ℕ) (set : sorted.BTreeSet ℕ) → IsSetOf test set → IsSetOf (λ k. test k && not (list_any (λ i. i == k) (take 0 ids))) set
taken_none test ids set h = set_as test (λ k. test k && not (list_any (λ i. i == k) (take 0 ids))) set (λ k. go (test k)) h
  where
    go : (b : Bool) → b ≡ (b && true)
    go true = refl
    go false = refl

pub taken_more : (test : ℕ → Bool) (ids : List ℕ) (i id : ℕ) (set now : sorted.BTreeSet ℕ) → i < length ids → id ≡ get_or ids i id → IsSetOf (λ k. test k && not (list_any (λ j. j == k) (take i ids))) set
    → sorted.Updates nat_cmp set now id false → sorted.IsOrdered nat_cmp now → IsSetOf (λ k. test k && not (list_any (λ j. j == k) (take (i + 1) ids))) now
taken_more test ids i id set now l is h takes o = record { ordered = o; has = has }
  where
    out : (a t b : Bool) → cond a false (t && not b) ≡ (t && not (b || a))
    out true true true = refl
    out true true false = refl
    out true false b = refl
    out false true true = refl
    out false true false = refl
    out false false b = refl

    has : (k : ℕ) → sorted.contains nat_cmp now k ≡ (test k && not (list_any (λ j. j == k) (take (i + 1) ids)))
    has k =
        takes.0 k ∙ ap (λ (b : Bool). cond b false (sorted.contains nat_cmp set k)) (sym (unsigned_ties id k))
        ∙ ap (λ (b : Bool). cond (id == k) false b) (h.has k)
        ∙ out (id == k) (test k) (list_any (λ j. j == k) (take i ids))
        ∙ ap (λ n. test k && not (list_any (λ j. j == k) (take i ids) || (n == k))) is
        ∙ ap (λ b. test k && not b) (sym (list_any_more (λ j. j == k) ids i id l))

-- ---- a copy

-- contains, by the keys
pub contains_keys : (set : sorted.BTreeSet ℕ) (k : ℕ) → sorted.contains nat_cmp set k ≡ list_any (λ j. j == k) set.keys
contains_keys set k = go set.keys
  where
    one : (j : ℕ) → is_at (nat_cmp k) j ≡ (j == k)
    one j = sym (unsigned_ties k j) ∙ both_ways (k == j) (j == k) (λ e. eq-eqb j k (sym (eqb-true k j e))) (λ e. eq-eqb k j (sym (eqb-true j k e)))

    go : (ks : List ℕ) → list_any (is_at (nat_cmp k)) ks ≡ list_any (λ j. j == k) ks
    go [] = refl
    go (j ∷ ks) = ap (λ b. b || list_any (is_at (nat_cmp k)) ks) (one j) ∙ ap (λ b. (j == k) || b) (go ks)

-- the set has these keys
pub record IsOfKeys (ks : List ℕ) (set : sorted.BTreeSet ℕ) : Type 0 where
  pub ordered : sorted.IsOrdered nat_cmp set
  pub has : (k : ℕ) → sorted.contains nat_cmp set k ≡ list_any (λ j. j == k) ks

pub keys_none : (set : sorted.BTreeSet ℕ) → sorted.IsOrdered nat_cmp set → ((k : ℕ) → sorted.contains nat_cmp set k ≡ false) → IsOfKeys [] set
keys_none set o e = record { ordered = o; has = λ k. e k }

pub keys_more : (front : List ℕ) (id : ℕ) (seen now : sorted.BTreeSet ℕ) → IsOfKeys front seen → sorted.Updates nat_cmp seen now id true → sorted.IsOrdered nat_cmp now → IsOfKeys (front ++ id ∷ []) now
keys_more front id seen now h adds o = record { ordered = o; has = has }
  where
    turned : (a b : Bool) → cond a true b ≡ (b || (a || false))
    turned true true = refl
    turned true false = refl
    turned false true = refl
    turned false false = refl

    has : (k : ℕ) → sorted.contains nat_cmp now k ≡ list_any (λ j. j == k) (front ++ id ∷ [])
    has k =
        adds.0 k ∙ ap (λ (b : Bool). cond b true (sorted.contains nat_cmp seen k)) (sym (unsigned_ties id k))
        ∙ ap (λ (b : Bool). cond (id == k) true b) (h.has k)
        ∙ turned (id == k) (list_any (λ j. j == k) front)
        ∙ sym (list_any-append (λ j. j == k) front (id ∷ []))

pub keys_all : (set copy : sorted.BTreeSet ℕ) → IsOfKeys set.keys copy → (test : ℕ → Bool) → IsSetOf test set → IsSetOf test copy
keys_all set copy h test t = record { ordered = h.ordered; has = λ k. h.has k ∙ sym (contains_keys set k) ∙ t.has k }

-- what is common with another set is taken out
pub without : (test of : ℕ → Bool) (left now set : sorted.BTreeSet ℕ) (ids : List ℕ) → ids ≡ filter (sorted.contains nat_cmp set) left.keys → IsSetOf of set → IsSetOf test left
    → IsSetOf (λ k. test k && not (list_any (λ i. i == k) ids)) now → IsSetOf (λ k. test k && not (of k)) now
without test of left now set ids e s h n = set_as (λ k. test k && not (list_any (λ i. i == k) ids)) (λ k. test k && not (of k)) now one n
  where
    absorbed : (t o : Bool) → (t && not (o && t)) ≡ (t && not o)
    absorbed true true = refl
    absorbed true false = refl
    absorbed false o = refl

    one : (k : ℕ) → (test k && not (list_any (λ i. i == k) ids)) ≡ (test k && not (of k))
    one k =
        ap (λ xs. test k && not (list_any (λ i. i == k) xs)) e
        ∙ ap (λ b. test k && not b) (filtered_number (sorted.contains nat_cmp set) left.keys k)
        ∙ ap (λ b. test k && not (b && list_any (λ i. i == k) left.keys)) (s.has k)
        ∙ ap (λ b. test k && not (of k && b)) (sym (contains_keys left k) ∙ h.has k)
        ∙ absorbed (test k) (of k)
