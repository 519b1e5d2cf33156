-- Methods that are looked up in a row, and the keys of those that are found.
use Rattle.std.proofs.Common.{◌≡◌, Bool, true, false, List, [], ◌∷◌, refl, sym, subst, Option, Some, None, is_some, not}
use Rattle.std.specs.Prelude.{IsTrue, IsFalse, IfSome}
use Rattle.std.specs.List.{list_any, Contains}
use Rattle.jc_facts.specs.declared.key.Key.{Key}
use Rattle.jc_facts.specs.Exactly.{HasExactly}
use Rattle.jc_facts.specs.KeyOrder.{key_cmp}
use Rattle.jc_facts.specs.Names.{Bytes}
use Rattle.jc_facts.specs.world.Lookup.{are_none, method_choices, interface_choices}
use Rattle.jc_facts.specs.world.World.{World, classes, DeclaredMember}
use Rattle.jc_facts.specs.world.Assignment.{is_interface_of}
use Rattle.jc_facts.specs.world.Loading.{load_fault}
use Rattle.jc_lemmas.proofs.Listed.{empty_from, here}
use Rattle.jc_worlds.specs.Hierarchy.{above}
use Rattle.jc_index.specs.Sides.{IsSide}
use Rattle.jc_index.specs.Lookups.{IsChoice, declare_method}
use Rattle.jc_index.specs.declared.ids.Found.{Found}
use Rattle.jc_index.proofs.Sides.{side_valid}
use Rattle.jc_rows.specs.declared.row.RowItem.{RowItem}
use Rattle.jc_rows.specs.Keys.{declares_with_rows}
use Rattle.jc_rows.specs.Rows.{choices_by, lookup_choices, IsMethodRow}
use Rattle.jc_rows.specs.WithRows.{has_rows}
use Rattle.jc_rows.proofs.WithRows.{unnumbered-method}
use Rattle.jc_table.specs.RowKeys.{keys_of_row, HaveKeysOf, HasForKey}
use Rattle.jc_table.proofs.InRows.{looked_up, is_among, is_listed}
use Rattle.jc_table.proofs.RowKeys.{have_keys}
use Rattle.jc_method.specs.FoundKeys.{HaveFound}
use Rattle.jc_method.proofs.Declared.{choice_is_declared, interface_choice_is_declared}

there : (W : World) (r : Option Found) (ms : List DeclaredMember) → IsChoice W r ms → not (are_none ms) ≡ true → is_some r ≡ true
there W None [] c h = h
there W None (m ∷ ms) c h = absurd (let z : m ∷ ms ≡ [] = c in cc)
there W (Some f) ms c h = refl

module _ (W : World) (s : IsSide W) (x : Bytes) (loads : load_fault W x ≡ None) where
  declared_above : (k : Key) (b : Bool) (m : DeclaredMember) → Contains (choices_by b W x k) m → declare_method (above W x) k ≡ true
  declared_above k true m c = interface_choice_is_declared k W x loads (side_valid W s) m c
  declared_above k false m c = choice_is_declared k W x m c

  -- each key that is found is among those that are declared above
  pub found_above : (keys : List Key) → HasExactly key_cmp (λ k. IsTrue (declare_method (above W x) k)) keys → HaveFound W x keys
  found_above keys h k f = is_listed (λ j. IsTrue (declare_method (above W x) j)) keys h k (go (lookup_choices W x k) refl f)
    where
      go : (ms : List DeclaredMember) → lookup_choices W x k ≡ ms → not (are_none ms) ≡ true → declare_method (above W x) k ≡ true
      go [] e n = absurd (let z : false ≡ true = n in cc)
      go (m ∷ ms) e n = declared_above k (is_interface_of W x) m (subst (λ (ns : List DeclaredMember). Contains ns m) (sym e) (here m ms))

  module _ (made : has_rows W x ≡ true) (row : List RowItem) (h : IsMethodRow W x row) where
    -- there is no choice of what no class with rows declares
    undeclared : (k : Key) → list_any (declares_with_rows W k) (classes W) ≡ false → IsChoice W None (lookup_choices W x k)
    undeclared k u =
        empty_from (lookup_choices W x k)
        (λ m c. let t : declare_method (above W x) k ≡ true = declared_above k (is_interface_of W x) m c in let f = unnumbered-method W s k u x made loads in cc)

    -- what the row has for a key is one of the choices
    pub in_row : (k : Key) (r : Option Found) → HasForKey W row k r → IsChoice W r (lookup_choices W x k)
    in_row k r e = looked_up W s.differ (λ j o. IsChoice W o (lookup_choices W x j)) row h.found undeclared k r e

    -- each key that is found is among those of the row
    pub found_in_row : (keys : List Key) → HaveKeysOf W row keys → HaveFound W x keys
    found_in_row keys w k f = is_among W s.differ (λ j o. IsChoice W o (lookup_choices W x j)) row h.found undeclared keys w k (λ r a. there W r (lookup_choices W x k) a f)

  -- the keys of the row that is made of it, if one is, are those of all that is found; r is the row as it is lent
  pub row_finds : {A : Type 0} (r : Option A) (view : A → List RowItem) → is_some r ≡ has_rows W x → IfSome r (λ a. IsMethodRow W x (view a)) → IfSome r (λ a. HaveFound W x (keys_of_row W (view a)))
  row_finds None view m h = tt
  row_finds (Some a) view m h = found_in_row (sym m) (view a) h (keys_of_row W (view a)) (have_keys W (view a))

-- ---- by kinds

pub of_class : (W : World) (x : Bytes) (k : Key) (r : Option Found) → IsFalse (is_interface_of W x) → IsChoice W r (lookup_choices W x k) → IsChoice W r (method_choices W x k)
of_class W x k r = go (is_interface_of W x)
  where
    go : (b : Bool) → IsFalse b → IsChoice W r (choices_by b W x k) → IsChoice W r (method_choices W x k)
    go true h c = absurd (cc)
    go false h c = c

pub of_interface : (W : World) (x : Bytes) (k : Key) (r : Option Found) → IsTrue (is_interface_of W x) → IsChoice W r (lookup_choices W x k) → IsChoice W r (interface_choices W x k)
of_interface W x k r = go (is_interface_of W x)
  where
    go : (b : Bool) → IsTrue b → IsChoice W r (choices_by b W x k) → IsChoice W r (interface_choices W x k)
    go true h c = c
    go false h c = absurd (cc)
