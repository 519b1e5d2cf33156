-- A search by halves in a row.
use Rattle.std.proofs.Common.{◌≡◌, ℕ, ◌≤◌, ◌<◌, ◌+◌, ◌-◌, ◌++◌, suc, zero, Bool, List, [], ◌∷◌, length, take, drop, get_or, refl, sym, ◌∙◌, ap, subst, Option, Some, None, arith}
use Rattle.std.specs.Prelude.{cond, nat_eq}
use Rattle.std.proofs.lemmas.Bool.{eq-eqb, ne_eqb}
use Rattle.std.proofs.lemmas.List.{take-append-drop, take_more, take_all}
use Rattle.jc_facts.specs.Options.{or_else}
use Rattle.jc_index.specs.declared.ids.Found.{Found}
use Rattle.jc_rows.specs.declared.row.RowItem.{RowItem}
use Rattle.jc_rows.specs.Rows.{Rises, RisesFrom, entry}
use Rattle.jc_rows.specs.steps.Merging.{IsMerged, IsRowOf}
use Rattle.jc_rows.proofs.Entries.{entry-append, entry-below}

-- no key is less than where the row rises from
at_least : (n : ℕ) (row : List RowItem) (m : ℕ) (x : RowItem) → RisesFrom n row → m < length row → x ≡ get_or row m x → n ≤ x.key
at_least n [] m x r l e = absurd (omega arith)
at_least n (i ∷ is) zero x r l e = let k : x.key ≡ i.key = ap (λ (y : RowItem). y.key) e in omega (arith, k, r.0)
at_least n (i ∷ is) (suc m) x r l e = let k = at_least (i.key + 1) is m x r.1 (omega arith) e in omega (arith, k, r.0)

passed : (k n : ℕ) (f : Found) (o : Option Found) → k < n → cond (nat_eq k n) (Some f) o ≡ o
passed k n f o l = ap (λ (b : Bool). cond b (Some f) o) (ne_eqb k n (λ e. omega (arith, e, l)))

-- what stands up to a smaller key has no entry
pub skip : (n : ℕ) (row : List RowItem) (m : ℕ) (x : RowItem) (key : ℕ) → RisesFrom n row → m < length row → x ≡ get_or row m x → x.key < key → entry row key ≡ entry (drop (m + 1) row) key
skip n [] m x key r l e h = absurd (omega arith)
skip n (i ∷ is) zero x key r l e h = let k : x.key ≡ i.key = ap (λ (y : RowItem). y.key) e in passed i.key key i.found (entry is key) (omega (arith, k, h))
skip n (i ∷ is) (suc m) x key r l e h =
    let k = at_least (i.key + 1) is m x r.1 (omega arith) e in
    let one : suc (m + 1) ≡ suc m + 1 = omega arith in
    passed i.key key i.found (entry is key) (omega (arith, k, h)) ∙ skip (i.key + 1) is m x key r.1 (omega arith) e h
    ∙ ap (λ (j : ℕ). entry (drop j (i ∷ is)) key) one

-- nor has what stands from a greater key on
pub beyond : (n : ℕ) (row : List RowItem) (m : ℕ) (x : RowItem) (key : ℕ) → RisesFrom n row → m < length row → x ≡ get_or row m x → key < x.key → entry (drop m row) key ≡ None
beyond n [] m x key r l e h = absurd (omega arith)
beyond n (i ∷ is) zero x key r l e h =
    let k : x.key ≡ i.key = ap (λ (y : RowItem). y.key) e in entry-below i.key key (i ∷ is) (omega (arith, k, h)) (omega arith, r.1)
beyond n (i ∷ is) (suc m) x key r l e h = beyond (i.key + 1) is m x key r.1 (omega arith) e h

pub hit : (n : ℕ) (row : List RowItem) (m : ℕ) (x : RowItem) (key : ℕ) → RisesFrom n row → m < length row → x ≡ get_or row m x → x.key ≡ key → Some x.found ≡ entry row key
hit n [] m x key r l e h = absurd (omega arith)
hit n (i ∷ is) zero x key r l e h =
    let k : i.key ≡ key = sym (ap (λ (y : RowItem). y.key) e) ∙ h in
    ap (λ (y : RowItem). Some y.found) e ∙ sym (ap (λ (b : Bool). cond b (Some i.found) (entry is key)) (eq-eqb i.key key k))
hit n (i ∷ is) (suc m) x key r l e h =
    let k = at_least (i.key + 1) is m x r.1 (omega arith) e in
    hit (i.key + 1) is m x key r.1 (omega arith) e h ∙ sym (passed i.key key i.found (entry is key) (omega (arith, k, h)))

-- ---- sorting

rises_last : (n : ℕ) (xs : List RowItem) (x y : RowItem) → RisesFrom n (xs ++ x ∷ []) → x.key < y.key → RisesFrom n ((xs ++ x ∷ []) ++ y ∷ [])
rises_last n [] x y r l = (r.0, (omega (arith, l), tt))
rises_last n (z ∷ xs) x y r l = (r.0, rises_last (z.key + 1) xs x y r.1 l)

-- one more that is greater than the last
pub rises_on : (items : List RowItem) (n : ℕ) (x y : RowItem) → 1 ≤ n → n < length items → x ≡ get_or items (n - 1) x → y ≡ get_or items n y → x.key < y.key → Rises (take n items) → Rises (take (n + 1) items)
rises_on items n x y o l p q k r =
    let m : ℕ = n - 1 in
    let e : m + 1 ≡ n = omega (arith, o) in
    let front : take n items ≡ take m items ++ x ∷ [] = ap (λ (i : ℕ). take i items) (sym e) ∙ take_more items m x (omega (arith, o, l)) ∙ ap (λ (z : RowItem). take m items ++ z ∷ []) (sym p) in
    let whole : take (n + 1) items ≡ (take m items ++ x ∷ []) ++ y ∷ [] = take_more items n y l ∙ ap (λ (z : RowItem). take n items ++ z ∷ []) (sym q) ∙ ap (λ (zs : List RowItem). zs ++ y ∷ []) front in
    subst Rises (sym whole) (rises_last 0 (take m items) x y (subst Rises front r) k)

pub rises_first : (items : List RowItem) → Rises (take 1 items)
rises_first [] = tt
rises_first (i ∷ is) = (omega arith, tt)

pub rises_all : (items : List RowItem) (n : ℕ) → length items ≤ n → Rises (take n items) → Rises items
rises_all items n l r = subst Rises (take_all n items l) r

-- items that rise are their row
pub as_they_are : (items row : List RowItem) → row ≡ items → Rises items → IsRowOf items row
as_they_are items row e r = subst (IsRowOf items) (sym e) (record { rises = r; entries = λ n. refl })

pub short : (items row : List RowItem) → row ≡ items → length items ≤ 1 → IsRowOf items row
short [] row e l = subst (IsRowOf []) (sym e) (record { rises = tt; entries = λ n. refl })
short (i ∷ []) row e l = subst (IsRowOf (i ∷ [])) (sym e) (record { rises = (omega arith, tt); entries = λ n. refl })
short (i ∷ j ∷ is) row e l = absurd (omega arith)

pub joins : (items front back first second row : List RowItem) (m : ℕ) → front ≡ take m items → back ≡ drop m items → IsRowOf front first → IsRowOf back second → IsMerged first second row → IsRowOf items row
joins items front back first second row m f b p q w = record {
  rises = w.rises;
  entries = λ n.
      w.entries n ∙ ap (λ (o : Option Found). or_else o (entry second n)) (p.entries n ∙ ap (λ (xs : List RowItem). entry xs n) f)
      ∙ ap (or_else (entry (take m items) n)) (q.entries n ∙ ap (λ (xs : List RowItem). entry xs n) b)
      ∙ sym (entry-append (take m items) (drop m items) n) ∙ ap (λ (xs : List RowItem). entry xs n) (take-append-drop m items);
}
