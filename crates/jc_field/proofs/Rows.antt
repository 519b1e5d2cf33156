-- Fields that are looked up in a row, and the keys of those that are found.
use Rattle.std.proofs.Common.{◌≡◌, true, false, List, refl, sym, Option, Some, None, is_some}
use Rattle.std.specs.Prelude.{IsTrue, IfSome}
use Rattle.std.specs.List.{list_any}
use Rattle.jc_facts.specs.declared.key.Key.{Key}
use Rattle.jc_facts.specs.Exactly.{HasExactly}
use Rattle.jc_facts.specs.KeyOrder.{key_cmp}
use Rattle.jc_facts.specs.Names.{Bytes}
use Rattle.jc_facts.specs.world.World.{World, classes, DeclaredMember}
use Rattle.jc_facts.specs.world.Loading.{load_fault}
use Rattle.jc_facts.specs.world.Lookup.{field_found}
use Rattle.jc_worlds.specs.Hierarchy.{above}
use Rattle.jc_index.specs.Sides.{IsSide}
use Rattle.jc_index.specs.Lookups.{IsAnswer, declare_field}
use Rattle.jc_index.specs.declared.ids.Found.{Found}
use Rattle.jc_rows.specs.declared.row.RowItem.{RowItem}
use Rattle.jc_rows.specs.Keys.{declares_with_rows}
use Rattle.jc_rows.specs.Rows.{IsFieldRow}
use Rattle.jc_rows.specs.WithRows.{has_rows}
use Rattle.jc_rows.proofs.WithRows.{unnumbered-field}
use Rattle.jc_table.specs.RowKeys.{keys_of_row, HaveKeysOf, HasForKey}
use Rattle.jc_table.proofs.InRows.{looked_up, is_among, is_listed}
use Rattle.jc_table.proofs.RowKeys.{have_keys}
use Rattle.jc_field.specs.FoundKeys.{HaveFound}
use Rattle.jc_field.proofs.Declared.{found_is_declared}

there : (W : World) (r : Option Found) (o : Option DeclaredMember) → IsAnswer W r o → is_some o ≡ true → is_some r ≡ true
there W None (Some m) a h = absurd a
there W None None a h = h
there W (Some f) o a h = refl

module _ (W : World) (s : IsSide W) (x : Bytes) (loads : load_fault W x ≡ None) where
  declared_above : (k : Key) (o : Option DeclaredMember) → field_found W x k ≡ o → is_some o ≡ true → declare_field (above W x) k ≡ true
  declared_above k None e h = absurd (let z : false ≡ true = h in cc)
  declared_above k (Some m) e h = found_is_declared W s x k m e loads

  -- each key that is found is among those that are declared above
  pub found_above : (keys : List Key) → HasExactly key_cmp (λ k. IsTrue (declare_field (above W x) k)) keys → HaveFound W x keys
  found_above keys h k f = is_listed (λ j. IsTrue (declare_field (above W x) j)) keys h k (declared_above k (field_found W x k) refl f)

  module _ (made : has_rows W x ≡ true) (row : List RowItem) (h : IsFieldRow W x row) where
    -- what no class with rows declares isn't found
    undeclared : (k : Key) → list_any (declares_with_rows W k) (classes W) ≡ false → IsAnswer W None (field_found W x k)
    undeclared k u = go (field_found W x k) refl
      where
        go : (o : Option DeclaredMember) → field_found W x k ≡ o → IsAnswer W None o
        go None e = tt
        go (Some m) e = absurd (let t : declare_field (above W x) k ≡ true = declared_above k (Some m) e refl in let f = unnumbered-field W s k u x made loads in cc)

    -- what the row has for a key is what the lookup finds
    pub in_row : (k : Key) (r : Option Found) → HasForKey W row k r → IsAnswer W r (field_found W x k)
    in_row k r e = looked_up W s.differ (λ j o. IsAnswer W o (field_found W x j)) row h.found undeclared k r e

    -- each key that is found is among those of the row
    pub found_in_row : (keys : List Key) → HaveKeysOf W row keys → HaveFound W x keys
    found_in_row keys w k f = is_among W s.differ (λ j o. IsAnswer W o (field_found W x j)) row h.found undeclared keys w k (λ r a. there W r (field_found W x k) a f)

  -- the keys of the row that is made of it, if one is, are those of all that is found; r is the row as it is lent
  pub row_finds : {A : Type 0} (r : Option A) (view : A → List RowItem) → is_some r ≡ has_rows W x → IfSome r (λ a. IsFieldRow W x (view a)) → IfSome r (λ a. HaveFound W x (keys_of_row W (view a)))
  row_finds None view m h = tt
  row_finds (Some a) view m h = found_in_row (sym m) (view a) h (keys_of_row W (view a)) (have_keys W (view a))
