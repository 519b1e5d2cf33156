-- The keys of a row, item by item.
use Rattle.std.proofs.Common.{◌≡◌, Bool, true, false, cond, ◌||◌, List, [], ◌∷◌, refl, ◌∙◌, ap, Option, Some, None, is_some, slice_get}
use Rattle.std.specs.Prelude.{nat_eq}
use Rattle.std.specs.List.{cons_option}
use Rattle.std.proofs.lemmas.Bool.{eqb-true, or_right}
use Rattle.jc_facts.specs.declared.key.Key.{Key}
use Rattle.jc_facts.specs.Names.{same_key}
use Rattle.jc_facts.specs.file.Valid.{has_key}
use Rattle.jc_facts.specs.world.World.{World}
use Rattle.jc_facts.proofs.Same.{key_itself}
use Rattle.jc_rows.specs.declared.row.RowItem.{RowItem}
use Rattle.jc_rows.specs.Keys.{numbered_keys}
use Rattle.jc_rows.specs.Rows.{entry}
use Rattle.jc_table.specs.RowKeys.{keys_of_row, HaveKeysOf}

-- one more key at the front, if there is one
further : (o : Option Key) (k : Key) (keys : List Key) → has_key k keys ≡ true → has_key k (cons_option o keys) ≡ true
further None k keys h = h
further (Some j) k keys h = or_right (same_key k j) (has_key k keys) h

-- the keys of the items are those for which the row has an entry
pub have_keys : (W : World) (row : List RowItem) → HaveKeysOf W row (keys_of_row W row)
have_keys W [] n k e h = absurd (let z : false ≡ true = h in cc)
have_keys W (i ∷ is) n k e h = go (nat_eq i.key n) refl h (have_keys W is n k e)
  where
    go : (b : Bool) → nat_eq i.key n ≡ b → is_some (cond b (Some i.found) (entry is n)) ≡ true → (is_some (entry is n) ≡ true → has_key k (keys_of_row W is) ≡ true) → has_key k (cons_option (slice_get (numbered_keys W) i.key) (keys_of_row W is)) ≡ true
    go true t p r =
        ap (λ (o : Option Key). has_key k (cons_option o (keys_of_row W is))) (ap (slice_get (numbered_keys W)) (eqb-true i.key n t) ∙ e)
        ∙ ap (λ (b : Bool). b || has_key k (keys_of_row W is)) (key_itself k)
    go false t p r = further (slice_get (numbered_keys W) i.key) k (keys_of_row W is) (r p)
