-- Marks that are set, and cleared again.
--     set_same, set_both      which marks are set
--     set_start, set_more      those of a list, of one item after the other
--     told, cleared      what marks tell, and how they are clear again
use Rattle.std.proofs.Common.{◌≡◌, ◌<◌, ◌+◌, ◌||◌, ℕ, Bool, true, false, cond, List, length, get_or, take, refl, sym, ◌∙◌, ap, subst, nat_lt, arith}
use Rattle.std.specs.List.{list_any}
use Rattle.std.proofs.lemmas.Bool.{ltb-true, ltb-false}
use Rattle.std.proofs.lemmas.List.{get_or_past}
use Rattle.std.proofs.lemmas.List.Folds.{list_any_more}
use Rattle.jc_select.specs.steps.Losing.{AreClear, AreSet, mark_at}

-- ---- which are set

pub set_same : (p q : ℕ → Bool) (to : Bool) (before after : List Bool) → ((n : ℕ) → n < length before → p n ≡ q n) → AreSet p to before after → AreSet q to before after
set_same p q to before after e h = record { count = h.count; each = λ n l. h.each n l ∙ ap (λ b. cond b to (mark_at before n)) (e n l) }

twice : (a b to m : Bool) → cond b to (cond a to m) ≡ cond (a || b) to m
twice true true to m = refl
twice true false to m = refl
twice false true to m = refl
twice false false to m = refl

pub set_both : (p q : ℕ → Bool) (to : Bool) (before mid after : List Bool) → AreSet p to before mid → AreSet q to mid after → AreSet (λ n. p n || q n) to before after
set_both p q to before mid after h k = record {
  count = k.count ∙ h.count;
  each = λ n l. k.each n (subst (λ m. n < m) (sym h.count) l) ∙ ap (λ (m : Bool). cond (q n) to m) (h.each n l) ∙ twice (p n) (q n) to (mark_at before n);
}

-- ---- those of a list

module _ {A : Type 0} (p : A → ℕ → Bool) (xs : List A) where
  pub set_start : (to : Bool) (marks : List Bool) → AreSet (λ n. list_any (λ x. p x n) (take 0 xs)) to marks marks
  set_start to marks = record { count = refl; each = λ n l. refl }

  -- one more of them
  pub set_more : (to : Bool) (before mid after : List Bool) (i : ℕ) (x d : A) → i < length xs → x ≡ get_or xs i d → AreSet (λ n. list_any (λ y. p y n) (take i xs)) to before mid → AreSet (p x) to mid after
      → AreSet (λ n. list_any (λ y. p y n) (take (i + 1) xs)) to before after
  set_more to before mid after i x d l e h k =
      set_same (λ n. list_any (λ y. p y n) (take i xs) || p x n) (λ n. list_any (λ y. p y n) (take (i + 1) xs)) to before after
      (λ n b. ap (λ y. list_any (λ z. p z n) (take i xs) || p y n) e ∙ sym (list_any_more (λ z. p z n) xs i d l))
      (set_both (λ n. list_any (λ y. p y n) (take i xs)) (p x) to before mid after h k)

-- ---- what they tell

pub told : (p : ℕ → Bool) (clear marks : List Bool) → AreClear clear → AreSet p true clear marks → (n : ℕ) → n < length clear → mark_at marks n ≡ p n
told p clear marks none h n l = h.each n l ∙ ap (λ (m : Bool). cond (p n) true m) (none n) ∙ itself (p n)
  where
    itself : (b : Bool) → cond b true false ≡ b
    itself true = refl
    itself false = refl

pub cleared : (p : ℕ → Bool) (clear marks after : List Bool) → AreClear clear → AreSet p true clear marks → AreSet p false marks after → AreClear after
cleared p clear marks after none h k n = go (nat_lt n (length clear)) refl
  where
    undone : (b m : Bool) → m ≡ false → cond b false (cond b true m) ≡ false
    undone true m e = refl
    undone false m e = e

    go : (b : Bool) → nat_lt n (length clear) ≡ b → mark_at after n ≡ false
    go true q =
        let l : n < length clear = ltb-true n (length clear) q in
        k.each n (subst (λ m. n < m) (sym h.count) l) ∙ ap (λ (m : Bool). cond (p n) false m) (h.each n l) ∙ undone (p n) (mark_at clear n) (none n)
    go false q = get_or_past after n false (omega (arith, ltb-false n (length clear) q, h.count, k.count))
