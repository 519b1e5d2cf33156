-- The keys of which a rule makes something.
use Rattle.std.proofs.Common.{◌≡◌, ◌≤◌, ℕ, length, take, slice_get, Bool, true, false, ◌||◌, List, [], ◌∷◌, refl, sym, ◌∙◌, ap, subst, Option, Some, None, is_some}
use Rattle.std.specs.BTreeSet as sorted
use Rattle.std.specs.List.{filter_map, cons_option, Contains}
use Rattle.std.proofs.lemmas.List.{take_all}
use Rattle.std.proofs.lemmas.Map.Views.{btree_set_contains_iff}
use Rattle.jc_facts.specs.declared.key.Key.{Key}
use Rattle.jc_facts.specs.Names.{same_key}
use Rattle.jc_facts.specs.Exactly.{Rises}
use Rattle.jc_facts.specs.KeyOrder.{key_cmp, key_total}
use Rattle.jc_facts.specs.Options.{and_then, some_where}
use Rattle.jc_facts.specs.Seen.{Holds}
use Rattle.jc_facts.specs.file.Valid.{has_key}
use Rattle.jc_facts.specs.world.World.{World}
use Rattle.jc_facts.proofs.KeySets.{key_exact, rises}
use Rattle.jc_facts.proofs.Same.{key_itself}
use Rattle.jc_index.proofs.HashedKeys.{key_is}
use Rattle.jc_rows.specs.declared.row.RowItem.{RowItem}
use Rattle.jc_rows.specs.Keys.{numbered_keys}
use Rattle.jc_table.specs.RowKeys.{keys_of_row}
use Rattle.jc_sides.specs.Rules.{HasEachKey, HasEachInOrder}
use Rattle.jc_sides.specs.steps.KeySets.{AreInOrder}

-- a set of keys as a list
pub sorted_keys : (keys list : List Key) (set : sorted.BTreeSet Key) → Holds set keys → list ≡ set.keys → sorted.IsOrdered key_cmp set → AreInOrder keys list
sorted_keys keys list set h e o = record {
  in_order = subst (Rises key_cmp) (sym e) (rises set.keys o);
  each = λ k m. subst (λ (ks : List Key). Contains ks k) (sym e) ((btree_set_contains_iff key_total key_exact set k).0 (h k ∙ m));
}

module _ {F : Type 0} (makes : Key → Option F) where
  -- the key, where something is made of it
  abbrev pub made_key : Key → Option Key
  made_key k = some_where (is_some (makes k)) k

  pub made_then : (k j : Key) → j ≡ k → is_some (makes k) ≡ true → Some j ≡ made_key k
  made_then k j e m = ap (λ (i : Key). Some i) e ∙ ap (λ (b : Bool). some_where b k) (sym m)

  pub made_else : (k : Key) → is_some (makes k) ≡ false → None ≡ made_key k
  made_else k m = ap (λ (b : Bool). some_where b k) (sym m)

  -- a key of which something is made stays among them
  stays : (keys : List Key) (k : Key) → is_some (makes k) ≡ true → has_key k keys ≡ true → has_key k (filter_map made_key keys) ≡ true
  stays [] k m h = absurd (let z : false ≡ true = h in cc)
  stays (j ∷ js) k m h = go (same_key k j) refl h (stays js k m)
    where
      first : j ≡ k → has_key k (cons_option (made_key j) (filter_map made_key js)) ≡ true
      first e =
          let t : made_key j ≡ Some k = ap made_key e ∙ ap (λ (b : Bool). some_where b k) m in
          ap (λ (o : Option Key). has_key k (cons_option o (filter_map made_key js))) t ∙ ap (λ (b : Bool). b || has_key k (filter_map made_key js)) (key_itself k)

      later : (b : Bool) → has_key k (filter_map made_key js) ≡ true → same_key k j ≡ false → has_key k (cons_option (some_where b j) (filter_map made_key js)) ≡ true
      later true r e = ap (λ (b : Bool). b || has_key k (filter_map made_key js)) e ∙ r
      later false r e = r

      go : (b : Bool) → same_key k j ≡ b → (b || has_key k js) ≡ true → (has_key k js ≡ true → has_key k (filter_map made_key js) ≡ true) → has_key k (cons_option (made_key j) (filter_map made_key js)) ≡ true
      go true e q r = first (sym (key_is k j e))
      go false e q r = later (is_some (makes j)) (r q) e

  -- each of them is among those of which something is made
  pub each_made : (keys made : List Key) → HasEachKey makes keys → made ≡ filter_map made_key keys → HasEachKey makes made
  each_made keys made h e k f m = ap (has_key k) e ∙ stays keys k (ap is_some m) (h k f m)

  pub each_in_order : (made list : List Key) → HasEachKey makes made → AreInOrder made list → HasEachInOrder makes list
  each_in_order made list h a = record {
    in_order = a.in_order;
    each = λ k f m. a.each k (h k f m);
  }

  -- ---- along a row

  module _ (W : World) where
    -- the key of the item, where something is made of it
    abbrev pub made_at : RowItem → Option Key
    made_at i = and_then made_key (slice_get (numbered_keys W) i.key)

    one_made : (o : Option Key) (keys : List Key) → filter_map made_key (cons_option o keys) ≡ cons_option (and_then made_key o) (filter_map made_key keys)
    unfolding and_then
    one_made None keys = refl
    one_made (Some k) keys = refl

    -- item by item is key by key
    along : (row : List RowItem) → filter_map made_at row ≡ filter_map made_key (keys_of_row W row)
    along [] = refl
    along (i ∷ is) = ap (cons_option (made_at i)) (along is) ∙ sym (one_made (slice_get (numbered_keys W) i.key) (keys_of_row W is))

    pub row_end : (row : List RowItem) (n : ℕ) (made : List Key) → length row ≤ n → made ≡ filter_map made_at (take n row) → made ≡ filter_map made_key (keys_of_row W row)
    row_end row n made l e = e ∙ ap (filter_map made_at) (take_all n row l) ∙ along row

    -- an item whose key is found, and one whose key isn't
    pub at_some : (n : ℕ) (k : Key) (o : Option Key) → slice_get (numbered_keys W) n ≡ Some k → o ≡ made_key k → o ≡ and_then made_key (slice_get (numbered_keys W) n)
    unfolding and_then
    at_some n k o e m = m ∙ sym (ap (and_then made_key) e)

    pub at_none : (n : ℕ) → slice_get (numbered_keys W) n ≡ None → None ≡ and_then made_key (slice_get (numbered_keys W) n)
    unfolding and_then
    at_none n e = sym (ap (and_then made_key) e)
