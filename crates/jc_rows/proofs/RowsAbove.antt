-- What a class has in its row, and the rows of the classes that it names above itself.
use Rattle.std.proofs.Common.{◌≡◌, ℕ, ◌≤◌, ◌<◌, ◌+◌, List, [], ◌∷◌, length, drop, get_or, refl, sym, ◌∙◌, ap, subst, Option, Some, None, arith}
use Rattle.std.proofs.lemmas.List.{drop_more}
use Rattle.std.proofs.Math.ListN.{drop_of_length-le}
use Rattle.jc_facts.specs.declared.class_facts.ClassFacts.{ClassFacts}
use Rattle.jc_facts.specs.Names.{Bytes}
use Rattle.jc_facts.specs.Options.{or_else, first_some, and_then}
use Rattle.jc_facts.specs.world.Search.{supers, supers_of}
use Rattle.jc_facts.specs.world.World.{World}
use Rattle.jc_facts.proofs.Options.{or_else-both, or_else-assoc, or_else-last, none_or_else, some_or_else}
use Rattle.jc_lemmas.proofs.Listed.{EachOf}
use Rattle.jc_worlds.proofs.Locality.{of_interfaces}
use Rattle.jc_index.specs.Ids.{id_of}
use Rattle.jc_index.specs.declared.ids.Found.{Found}
use Rattle.jc_index.proofs.Numbers.{id_of-Some}
use Rattle.jc_rows.specs.declared.row.RowItem.{RowItem}
use Rattle.jc_rows.specs.Rows.{Rises, entry}
use Rattle.jc_rows.specs.steps.Merging.{IsMerged}
use Rattle.jc_rows.specs.steps.Gathering.{AreRising, row_at, row_named, first_entry, super_entry, AddsRows, IsAdding, Gathers}

pub named-rises : (W : World) (rows : List (List RowItem)) (x : Bytes) → AreRising W rows → Rises (row_named W rows x)
named-rises W rows x a = go (id_of W x) refl
  where
    go : (o : Option ℕ) → id_of W x ≡ o → Rises (row_at rows o)
    go None e = tt
    go (Some n) e = let l = (id_of-Some W x n e).0 in let c = a.count in a.rise n [] (omega (arith, l, c))

module _ (W : World) (rows : List (List RowItem)) (xs : List Bytes) (first : List RowItem) where
  pub adding-starts : (at : ℕ) → at ≡ 0 → Rises first → IsAdding W rows xs first (drop at xs) first
  adding-starts at e r = subst (λ (i : ℕ). IsAdding W rows xs first (drop i xs) first) (sym e) (record { rises = r; entries = λ n. refl })

  pub adding-goes : (at : ℕ) (x : Bytes) (above row made : List RowItem) → at < length xs → x ≡ get_or xs at x → above ≡ row_named W rows x → IsMerged row above made
      → IsAdding W rows xs first (drop at xs) row → IsAdding W rows xs first (drop (at + 1) xs) made
  unfolding first_some
  adding-goes at x above row made l e f w a = record {
    rises = w.rises;
    entries = λ n.
        ap (λ (o : Option Found). or_else o (first_entry W rows (drop (at + 1) xs) n)) (w.entries n ∙ ap (λ (r : List RowItem). or_else (entry row n) (entry r n)) f)
        ∙ or_else-assoc (entry row n) (entry (row_named W rows x) n) (first_entry W rows (drop (at + 1) xs) n)
        ∙ ap (λ (ys : List Bytes). or_else (entry row n) (first_entry W rows ys n)) (sym (drop_more xs at x l ∙ ap (λ (z : Bytes). z ∷ drop (at + 1) xs) (sym e)))
        ∙ a.entries n;
  }

  pub adding-ends : (at : ℕ) (row : List RowItem) → length xs ≤ at → IsAdding W rows xs first (drop at xs) row → AddsRows W rows xs first row
  unfolding first_some
  adding-ends at row l a = record {
    rises = a.rises;
    entries = λ n. sym (ap (λ (ys : List Bytes). or_else (entry row n) (first_entry W rows ys n)) (drop_of_length-le xs l) ∙ or_else-last (entry row n)) ∙ a.entries n;
  }

-- ---- with the row of the superclass

module _ (W : World) (rows : List (List RowItem)) (c : ClassFacts) (first row : List RowItem) (a : AddsRows W rows c.interfaces first row) where
  pub gathers-None : c.superclass ≡ None → Gathers W rows c first row
  unfolding and_then
  gathers-None s = record {
    rises = a.rises;
    entries = λ n. a.entries n ∙ ap (or_else (entry first n)) (sym (ap (λ (o : Option Bytes). or_else (first_entry W rows c.interfaces n) (super_entry W rows o n)) s ∙ or_else-last (first_entry W rows c.interfaces n)));
  }

  pub gathers-Some : (z : Bytes) (up whole : List RowItem) → c.superclass ≡ Some z → up ≡ row_named W rows z → IsMerged row up whole → Gathers W rows c first whole
  unfolding and_then
  gathers-Some z up whole s u m = record {
    rises = m.rises;
    entries = λ n.
        m.entries n ∙ ap (λ (o : Option Found). or_else o (entry up n)) (a.entries n) ∙ or_else-assoc (entry first n) (first_entry W rows c.interfaces n) (entry up n)
        ∙ ap (λ (q : List RowItem). or_else (entry first n) (or_else (first_entry W rows c.interfaces n) (entry q n))) u
        ∙ ap (λ (o : Option Bytes). or_else (entry first n) (or_else (first_entry W rows c.interfaces n) (super_entry W rows o n))) (sym s);
  }

-- ---- where the rows above have nothing

module _ (W : World) (rows : List (List RowItem)) (n : ℕ) where
  no_first : (xs : List Bytes) → EachOf (λ s. entry (row_named W rows s) n ≡ None) xs → first_entry W rows xs n ≡ None
  unfolding first_some
  no_first [] h = refl
  no_first (x ∷ xs) h = or_else-both (entry (row_named W rows x) n) (first_entry W rows xs n) h.0 (no_first xs h.1)

  no_super : (s : Option Bytes) (is : List Bytes) → EachOf (λ z. entry (row_named W rows z) n ≡ None) (supers_of s is) → super_entry W rows s n ≡ None
  unfolding and_then
  no_super None is h = refl
  no_super (Some x) is h = h.0

  pub none_above : (c : ClassFacts) → EachOf (λ s. entry (row_named W rows s) n ≡ None) (supers c) → or_else (first_entry W rows c.interfaces n) (super_entry W rows c.superclass n) ≡ None
  none_above c h =
      or_else-both (first_entry W rows c.interfaces n) (super_entry W rows c.superclass n)
      (no_first c.interfaces (of_interfaces (λ s. entry (row_named W rows s) n ≡ None) c.superclass c.interfaces h)) (no_super c.superclass c.interfaces h)

-- ---- which row is the first that has an entry

module _ (W : World) (rows : List (List RowItem)) (n : ℕ) (xs : List Bytes) (at : ℕ) (x : Bytes) (l : at < length xs) (e : x ≡ get_or xs at x) where
  first-step : first_entry W rows (drop at xs) n ≡ or_else (entry (row_named W rows x) n) (first_entry W rows (drop (at + 1) xs) n)
  unfolding first_some
  first-step = ap (λ (ys : List Bytes). first_entry W rows ys n) (drop_more xs at x l ∙ ap (λ (z : Bytes). z ∷ drop (at + 1) xs) (sym e))

  pub first-here : (f : Found) → Some f ≡ entry (row_named W rows x) n → first_entry W rows (drop at xs) n ≡ first_entry W rows xs n → Some f ≡ first_entry W rows xs n
  first-here f h i = sym (first-step ∙ ap (λ (o : Option Found). or_else o (first_entry W rows (drop (at + 1) xs) n)) (sym h) ∙ some_or_else f (first_entry W rows (drop (at + 1) xs) n)) ∙ i

  pub first-further : None ≡ entry (row_named W rows x) n → first_entry W rows (drop at xs) n ≡ first_entry W rows xs n → first_entry W rows (drop (at + 1) xs) n ≡ first_entry W rows xs n
  first-further h i = sym (first-step ∙ ap (λ (o : Option Found). or_else o (first_entry W rows (drop (at + 1) xs) n)) (sym h) ∙ none_or_else (first_entry W rows (drop (at + 1) xs) n)) ∙ i
