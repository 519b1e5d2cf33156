-- The entries of rows, and of items that are no row yet.
use Rattle.std.proofs.Common.{◌≡◌, ℕ, ◌≤◌, ◌<◌, ◌+◌, Bool, true, false, List, [], ◌∷◌, ◌++◌, refl, ap, Option, Some, None, arith}
use Rattle.std.specs.Prelude.{cond, nat_eq}
use Rattle.std.proofs.lemmas.Bool.{eqb-true}
use Rattle.jc_facts.specs.Options.{or_else}
use Rattle.jc_rows.specs.declared.row.RowItem.{RowItem}
use Rattle.jc_rows.specs.Rows.{RisesFrom, entry}
use Rattle.jc_rows.specs.steps.Fronts.{item_list}
use Rattle.jc_index.specs.declared.ids.Found.{Found}

pub entry-append : (xs ys : List RowItem) (n : ℕ) → entry (xs ++ ys) n ≡ or_else (entry xs n) (entry ys n)
unfolding or_else
entry-append [] ys n = refl
entry-append (x ∷ xs) ys n = go (nat_eq x.key n) (entry-append xs ys n)
  where
    go : (b : Bool) → entry (xs ++ ys) n ≡ or_else (entry xs n) (entry ys n) → cond b (Some x.found) (entry (xs ++ ys) n) ≡ or_else (cond b (Some x.found) (entry xs n)) (entry ys n)
    go true e = refl
    go false e = e

-- the item of a key has no entry for another
pub list_entry : (m n : ℕ) (o : Option Found) → nat_eq m n ≡ false → entry (item_list m o) n ≡ None
list_entry m n None e = refl
list_entry m n (Some f) e = ap (λ (b : Bool). cond b (Some f) None) e

pub list_here : (m n : ℕ) (o : Option Found) → nat_eq m n ≡ true → entry (item_list m o) n ≡ o
list_here m n None e = refl
list_here m n (Some f) e = ap (λ (b : Bool). cond b (Some f) None) e

-- ---- rows

pub rises-more : (m n : ℕ) (xs : List RowItem) → m ≤ n → RisesFrom n xs → RisesFrom m xs
rises-more m n [] l r = tt
rises-more m n (x ∷ xs) l r = (omega (arith, r.0), r.1)

-- a row that rises from above a number has no entry for it
pub entry-below : (m n : ℕ) (xs : List RowItem) → n < m → RisesFrom m xs → entry xs n ≡ None
entry-below m n [] l r = refl
entry-below m n (x ∷ xs) l r = go (nat_eq x.key n) refl (entry-below (x.key + 1) n xs (omega (arith, r.0)) r.1)
  where
    go : (b : Bool) → nat_eq x.key n ≡ b → entry xs n ≡ None → cond b (Some x.found) (entry xs n) ≡ None
    go true e h = absurd (let s : x.key ≡ n = eqb-true x.key n e in omega (arith, s, r.0))
    go false e h = h

-- an item may go
pub rises-without : (n : ℕ) (done : List RowItem) (i : RowItem) (is : List RowItem) → RisesFrom n (done ++ (i ∷ is)) → RisesFrom n (done ++ is)
rises-without n [] i is r = rises-more n (i.key + 1) is (omega (arith, r.0)) r.1
rises-without n (d ∷ done) i is r = (r.0, rises-without (d.key + 1) done i is r.1)
