-- What is looked up in a row, and the keys of a row, of fields or of methods.
use Rattle.std.proofs.Common.{◌≡◌, ℕ, Bool, true, false, List, refl, sym, ◌∙◌, subst, Option, Some, None, is_some, slice_get}
use Rattle.std.specs.List.{list_any}
use Rattle.jc_facts.specs.declared.key.Key.{Key}
use Rattle.jc_facts.specs.Exactly.{HasExactly}
use Rattle.jc_facts.specs.KeyOrder.{key_cmp}
use Rattle.jc_facts.specs.Names.{same_key}
use Rattle.jc_facts.specs.Options.{and_then}
use Rattle.jc_facts.specs.world.World.{differ_by_name, World, classes}
use Rattle.jc_facts.specs.file.Valid.{has_key}
use Rattle.jc_facts.proofs.Same.{key_itself}
use Rattle.jc_lemmas.proofs.Listed.{any_has}
use Rattle.jc_index.specs.declared.ids.Found.{Found}
use Rattle.jc_rows.specs.declared.row.RowItem.{RowItem}
use Rattle.jc_rows.specs.Keys.{numbered_keys, declares_with_rows, IsNumber}
use Rattle.jc_rows.specs.Rows.{entry}
use Rattle.jc_rows.proofs.DeclaredKeys.{numbered_keys-declared}
use Rattle.jc_rows.proofs.Numbered.{number-known, placed}
use Rattle.jc_table.specs.RowKeys.{HaveKeysOf, HasForKey}

-- P says what a lookup may find of a key: it is so of the row's entries, and nothing is found of a key that no class with rows
-- declares
module _ (W : World) (differ : differ_by_name (classes W) ≡ true) (P : Key → Option Found → Type 0) (row : List RowItem) (found : (n : ℕ) (k : Key) → slice_get (numbered_keys W) n ≡ Some k → P k (entry row n)) (undeclared : (k : Key) → list_any (declares_with_rows W k) (classes W) ≡ false → P k None) where
  unnumbered : (k : Key) → has_key k (numbered_keys W) ≡ false → P k None
  unnumbered k e = undeclared k (sym (numbered_keys-declared W differ k) ∙ e)

  -- what the row has for a key
  pub looked_up : (k : Key) (r : Option Found) → HasForKey W row k r → P k r
  unfolding and_then
  looked_up k r h = subst (P k) (sym h.2) (go h.0 h.1)
    where
      go : (o : Option ℕ) → IsNumber (numbered_keys W) k o → P k (and_then (entry row) o)
      go None i = unnumbered k (sym (number-known (numbered_keys W) k None i))
      go (Some n) i = found n k i

  -- a key of which something is found is among the row's keys
  pub is_among : (keys : List Key) → HaveKeysOf W row keys → (k : Key) → ((r : Option Found) → P k r → is_some r ≡ true) → has_key k keys ≡ true
  is_among keys w k finds = go (has_key k (numbered_keys W)) refl
    where
      go : (b : Bool) → has_key k (numbered_keys W) ≡ b → has_key k keys ≡ true
      go true e = let p = placed (numbered_keys W) k e in w p.0 k p.1 (finds (entry row p.0) (found p.0 k p.1))
      go false e = absurd (let z : false ≡ true = finds None (unnumbered k e) in cc)

-- what stands is among all that stand
pub is_listed : (Stands : Key → Type 0) (keys : List Key) → HasExactly key_cmp Stands keys → (k : Key) → Stands k → has_key k keys ≡ true
is_listed Stands keys h k s = any_has (same_key k) keys k (h.complete k s) (key_itself k)
