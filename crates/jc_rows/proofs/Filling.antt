-- The rows of all classes, made one after the other in the order in which they load.
use Rattle.std.proofs.Common.{◌≡◌, ℕ, true, false, ◌≤◌, ◌<◌, ◌+◌, List, [], ◌∷◌, ◌++◌, length, take, set, get_or, sym, ◌∙◌, ap, subst, Option, Some, None, arith, ◌⊎◌, inl, inr}
use Rattle.std.specs.List.{Contains}
use Rattle.std.proofs.lemmas.Bool.{cases_eq, cases_lt}
use Rattle.std.proofs.lemmas.List.{length-set, get_or-set_same, get_or-set_other, get_or_default, get_or_past, take_more, take_all}
use Rattle.std.proofs.lemmas.List.Elements.{All-set, All-weaker, All-from_recursion, Contains-push, Contains-push_cases, Contains-append_left}
use Rattle.jc_facts.specs.Names.{Bytes}
use Rattle.jc_facts.specs.world.Search.{supers}
use Rattle.jc_facts.specs.world.World.{World, size}
use Rattle.jc_facts.specs.world.Loading.{load_fault}
use Rattle.jc_lemmas.proofs.Listed.{EachOf-both, none}
use Rattle.jc_index.specs.Ids.{id_of, name_at}
use Rattle.jc_index.proofs.Numbers.{id_of-Some}
use Rattle.jc_index.specs.LoadOrder.{IsNext, AreInLoadOrder, IsLoadOrder}
use Rattle.jc_index.specs.Sides.{IsSide}
use Rattle.jc_rows.specs.declared.row.RowItem.{RowItem}
use Rattle.jc_rows.specs.AllRows.{HasRows}
use Rattle.jc_rows.specs.Rows.{Rises}
use Rattle.jc_rows.specs.WithRows.{has_rows}
use Rattle.jc_rows.specs.steps.Columns.{AreEmpty, AreMade}
use Rattle.jc_rows.specs.steps.Gathering.{row_at, row_named, HasAbove}
use Rattle.jc_rows.proofs.WithRows.{rows-up}

-- ---- the order

module _ (W : World) (order : List ℕ) (o : AreInLoadOrder W order) where
  pub next_at : (i n : ℕ) → i < length order → n ≡ get_or order i n → IsNext W (take i order) n
  next_at i n l e = subst (IsNext W (take i order)) (sym e) (o i n l)

  -- each class of the order loads
  order_loads : (n : ℕ) → Contains order n → load_fault W (name_at W n) ≡ None
  order_loads n k = subst (λ (m : ℕ). load_fault W (name_at W m) ≡ None) k.2 (o k.0 n k.1).loads

-- ---- rows

module _ (P : Bytes → List RowItem → Type 0) (W : World) where
  -- at first all are empty
  pub none_made : (rows : List (List RowItem)) → AreEmpty W rows → AreMade P W [] rows
  none_made rows a = record {
    rising = record { count = a.count; rise = All-weaker (λ r. r ≡ []) Rises (λ r e. subst Rises (sym e) tt) rows a.empty };
    made = λ m k r. absurd (none m k);
    others = λ m k. go m (cases_lt m (length rows));
  }
    where
      go : (m : ℕ) → (m < length rows) ⊎ (length rows ≤ m) → get_or rows m [] ≡ []
      go m (inl l) = a.empty m [] l
      go m (inr l) = get_or_past rows m [] l

  module _ (done : List ℕ) (rows : List (List RowItem)) (m : AreMade P W done rows) where
    -- the rows that the next class needs are there
    pub above_made : IsSide W → (n : ℕ) → IsNext W done n → has_rows W (name_at W n) ≡ true → HasAbove P W rows (name_at W n)
    above_made side n next r c f = All-from_recursion (λ s. P s (row_named W rows s)) (supers c) (EachOf-both there (supers c) (next.above c f) (rows-up W side (name_at W n) c f next.loads r))
      where
        there : (s : Bytes) → (j : ℕ) × (id_of W s ≡ Some j) × Contains done j → has_rows W s ≡ true → P s (row_named W rows s)
        there s q h =
            let name : name_at W q.0 ≡ s = (id_of-Some W s q.0 q.1).1 in
            subst (λ (o : Option ℕ). P s (row_at rows o)) (sym q.1)
            (subst (λ (y : Bytes). P y (get_or rows q.0 [])) name (m.made q.0 q.2 (ap (has_rows W) name ∙ h)))

    -- and so is its own then
    next_made : (n : ℕ) (row : List RowItem) → n < size W → has_rows W (name_at W n) ≡ true → Rises row → P (name_at W n) row → AreMade P W (done ++ (n ∷ [])) (set rows n row)
    next_made n row l w r p = record {
      rising = record { count = length-set rows n row ∙ m.rising.count; rise = All-set Rises rows n row r m.rising.rise };
      made = λ j k h. go j (cases_eq j n) (Contains-push_cases done n j k) h;
      others = λ j k. away j (cases_eq j n) k;
    }
      where
        one : (j : ℕ) → j ≡ n → P (name_at W j) (get_or (set rows n row) j [])
        one j e =
            subst (λ (i : ℕ). P (name_at W i) (get_or (set rows n row) i [])) (sym e)
            (subst (P (name_at W n)) (sym (get_or-set_same rows n row [] (let q = m.rising.count in omega (arith, q, l)))) p)

        go : (j : ℕ) → (j ≡ n) ⊎ (j ≡ n → ⊥) → Contains done j ⊎ (n ≡ j) → has_rows W (name_at W j) ≡ true → P (name_at W j) (get_or (set rows n row) j [])
        go j (inl e) k h = one j e
        go j (inr d) (inl k) h = subst (P (name_at W j)) (sym (get_or-set_other rows n j row [] d)) (m.made j k h)
        go j (inr d) (inr e) h = one j (sym e)

        away : (j : ℕ) → (j ≡ n) ⊎ (j ≡ n → ⊥) → (Contains (done ++ (n ∷ [])) j → has_rows W (name_at W j) ≡ true → ⊥) → get_or (set rows n row) j [] ≡ []
        away j (inl e) k = absurd (k (subst (Contains (done ++ (n ∷ []))) (sym e) (Contains-push done n)) (ap (λ (i : ℕ). has_rows W (name_at W i)) e ∙ w))
        away j (inr d) k = get_or-set_other rows n j row [] d ∙ m.others j (λ c h. k (Contains-append_left done (n ∷ []) j c) h)

    -- a class without rows is passed by
    next_passed : (n : ℕ) → has_rows W (name_at W n) ≡ false → AreMade P W (done ++ (n ∷ [])) rows
    next_passed n r = record {
      rising = m.rising;
      made = λ j k h. go j (Contains-push_cases done n j k) h;
      others = λ j k. m.others j (λ c h. k (Contains-append_left done (n ∷ []) j c) h);
    }
      where
        go : (j : ℕ) → Contains done j ⊎ (n ≡ j) → has_rows W (name_at W j) ≡ true → P (name_at W j) (get_or rows j [])
        go j (inl k) h = m.made j k h
        go j (inr e) h = absurd (let c : true ≡ false = sym h ∙ ap (λ (i : ℕ). has_rows W (name_at W i)) (sym e) ∙ r in cc)

  -- ---- in the loop

  pub goes : (order : List ℕ) (i n : ℕ) → i < length order → n ≡ get_or order i n → AreInLoadOrder W order → (rows : List (List RowItem)) → AreMade P W (take i order) rows
      → (row : List RowItem) → has_rows W (name_at W n) ≡ true → Rises row → P (name_at W n) row → AreMade P W (take (i + 1) order) (set rows n row)
  goes order i n l e o rows m row w r p =
      subst (λ (done : List ℕ). AreMade P W done (set rows n row)) (sym (take_more order i n l ∙ ap (λ (j : ℕ). take i order ++ (j ∷ [])) (sym e)))
      (next_made (take i order) rows m n row (next_at W order o i n l e).within w r p)

  pub passes : (order : List ℕ) (i n : ℕ) → i < length order → n ≡ get_or order i n → (rows : List (List RowItem)) → AreMade P W (take i order) rows → has_rows W (name_at W n) ≡ false → AreMade P W (take (i + 1) order) rows
  passes order i n l e rows m r =
      subst (λ (done : List ℕ). AreMade P W done rows) (sym (take_more order i n l ∙ ap (λ (j : ℕ). take i order ++ (j ∷ [])) (sym e)))
      (next_passed (take i order) rows m n r)

  pub all_made : (order : List ℕ) → IsLoadOrder W order → (i : ℕ) → length order ≤ i → (rows : List (List RowItem)) → AreMade P W (take i order) rows → HasRows P W rows
  all_made order o i l rows m =
      let w : AreMade P W order rows = subst (λ (done : List ℕ). AreMade P W done rows) (take_all i order l) m in
      record {
        count = w.rising.count;
        right = λ n k h r. w.made n (o.all n k h) r;
        others = λ n k h. w.others n (λ c r. h (order_loads W order o.each n c) r);
      }

  -- the row of a class that loads and has rows
  pub row_there : (rows : List (List RowItem)) → HasRows P W rows → (class i : ℕ) → i ≡ class → class < size W → load_fault W (name_at W class) ≡ None → has_rows W (name_at W class) ≡ true → (row : List RowItem) → row ≡ get_or rows i row → P (name_at W class) row
  row_there rows h class i e l f r row g =
      subst (P (name_at W class)) (sym (g ∙ ap (λ (j : ℕ). get_or rows j row) e ∙ get_or_default rows class row [] (let k = h.count in omega (arith, k, l)))) (h.right class l f r)
