-- A class's own fields, with the rows above it, make its row.
use Rattle.std.proofs.Common.{◌≡◌, ℕ, List, [], ◌∷◌, sym, ◌∙◌, ap, subst, Option, Some, None}
use Rattle.std.specs.Prelude.{slice_get}
use Rattle.std.proofs.lemmas.List.Elements.{recursion_from_All}
use Rattle.jc_facts.specs.declared.class_facts.ClassFacts.{ClassFacts}
use Rattle.jc_facts.specs.declared.key.Key.{Key}
use Rattle.jc_facts.specs.Names.{Bytes}
use Rattle.jc_facts.specs.Options.{or_else, first_some, and_then}
use Rattle.jc_facts.specs.world.Search.{supers, supers_of}
use Rattle.jc_facts.specs.world.World.{World, find_class, own_field_of, found_in, DeclaredMember}
use Rattle.jc_facts.specs.world.Loading.{load_fault}
use Rattle.jc_facts.specs.world.Lookup.{field_found, field_step}
use Rattle.jc_facts.proofs.Options.{or_else-both}
use Rattle.jc_lemmas.proofs.Listed.{EachOf, EachOf-map}
use Rattle.jc_worlds.proofs.Loaded.{unroll}
use Rattle.jc_worlds.proofs.Locality.{field_step-local, of_interfaces}
use Rattle.jc_index.specs.Lookups.{IsAnswer}
use Rattle.jc_index.specs.declared.ids.Found.{Found}
use Rattle.jc_rows.specs.declared.row.RowItem.{RowItem}
use Rattle.jc_rows.specs.Keys.{numbered_keys}
use Rattle.jc_rows.specs.Rows.{entry, IsRow, IsFieldRow}
use Rattle.jc_rows.specs.steps.Fronts.{own_field}
use Rattle.jc_rows.specs.steps.Gathering.{row_named, first_entry, super_entry, HasAbove, Gathers}
use Rattle.jc_rows.proofs.RowsAbove.{none_above}

module _ (W : World) where
  -- what one row finds, else what another does
  pub both : (r s : Option Found) (o p : Option DeclaredMember) → IsAnswer W r o → IsAnswer W s p → IsAnswer W (or_else r s) (or_else o p)
  unfolding or_else
  both None s None p a b = b
  both None s (Some m) p a b = absurd a
  both (Some f) s None p a b = absurd a
  both (Some f) s (Some m) p a b = a

  module _ (rows : List (List RowItem)) where
    abbrev pub IsThere : Bytes → Type 0
    IsThere s = IsFieldRow W s (row_named W rows s)

    firsts : (n : ℕ) (k : Key) → slice_get (numbered_keys W) n ≡ Some k → (xs : List Bytes) → EachOf IsThere xs → IsAnswer W (first_entry W rows xs n) (first_some (λ s. field_found W s k) xs)
    unfolding first_some
    firsts n k e [] h = tt
    firsts n k e (x ∷ xs) h = both (entry (row_named W rows x) n) (first_entry W rows xs n) (field_found W x k) (first_some (λ s. field_found W s k) xs) (h.0.found n k e) (firsts n k e xs h.1)

    lasts : (n : ℕ) (k : Key) → slice_get (numbered_keys W) n ≡ Some k → (s : Option Bytes) (is : List Bytes) → EachOf IsThere (supers_of s is) → IsAnswer W (super_entry W rows s n) (and_then (λ z. field_found W z k) s)
    unfolding and_then
    lasts n k e None is h = tt
    lasts n k e (Some x) is h = h.0.found n k e

    -- ---- the law

    module _ (x : Bytes) (c : ClassFacts) (f : find_class W x ≡ Some c) (h : load_fault W x ≡ None) where
      finds : (k : Key) → field_found W x k ≡ or_else (own_field W x k) (or_else (first_some (λ s. field_found W s k) c.interfaces) (and_then (λ z. field_found W z k) c.superclass))
      unfolding field_step field_found and_then
      finds k =
          unroll W None None (field_step k) (field_step-local k) x c h f
          ∙ ap (λ (o : Option ClassFacts). or_else (and_then (λ d. found_in d (own_field_of d k)) o) (or_else (first_some (λ s. field_found W s k) c.interfaces) (and_then (λ z. field_found W z k) c.superclass))) (sym f)

      pub law : HasAbove (IsFieldRow W) W rows x → (own whole : List RowItem) → IsRow W (own_field W x) own → Gathers W rows c own whole → IsFieldRow W x whole
      law above own whole r g = record {
        rises = g.rises;
        found = λ n k q.
            subst (λ (o : Option Found). IsAnswer W o (field_found W x k)) (sym (g.entries n))
            (subst (IsAnswer W (or_else (entry own n) (or_else (first_entry W rows c.interfaces n) (super_entry W rows c.superclass n)))) (sym (finds k))
            (both (entry own n) (or_else (first_entry W rows c.interfaces n) (super_entry W rows c.superclass n)) (own_field W x k)
            (or_else (first_some (λ s. field_found W s k) c.interfaces) (and_then (λ z. field_found W z k) c.superclass)) (r.found n k q)
            (both (first_entry W rows c.interfaces n) (super_entry W rows c.superclass n) (first_some (λ s. field_found W s k) c.interfaces) (and_then (λ z. field_found W z k) c.superclass)
            (firsts n k q c.interfaces (of_interfaces IsThere c.superclass c.interfaces there)) (lasts n k q c.superclass c.interfaces there))));
        within = λ n q.
            g.entries n ∙ or_else-both (entry own n) (or_else (first_entry W rows c.interfaces n) (super_entry W rows c.superclass n)) (r.within n q)
            (none_above W rows n c (EachOf-map (λ s t. t.within n q) (supers c) there));
      }
        where
          there : EachOf IsThere (supers c)
          there = recursion_from_All IsThere (supers c) (above c f)
