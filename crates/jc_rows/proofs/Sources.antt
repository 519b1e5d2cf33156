-- The rows above a class, with its front, have an entry for each key of which something can be found.
use Rattle.std.proofs.Common.{◌≡◌, ℕ, List, [], ◌∷◌, sym, ◌∙◌, subst, Option, Some, None}
use Rattle.std.specs.Prelude.{slice_get}
use Rattle.std.proofs.lemmas.List.Elements.{recursion_from_All}
use Rattle.jc_facts.specs.declared.class_facts.ClassFacts.{ClassFacts}
use Rattle.jc_facts.specs.declared.key.Key.{Key}
use Rattle.jc_facts.specs.Names.{Bytes}
use Rattle.jc_facts.specs.Options.{or_else, first_some, and_then}
use Rattle.jc_facts.specs.world.Search.{supers, supers_of}
use Rattle.jc_facts.specs.world.World.{World, find_class}
use Rattle.jc_facts.specs.world.Loading.{load_fault}
use Rattle.jc_facts.proofs.Options.{or_else-none, or_else-both}
use Rattle.jc_lemmas.proofs.Listed.{EachOf, EachOf-map}
use Rattle.jc_index.specs.Lookups.{IsAnswer, IsChoice}
use Rattle.jc_index.specs.declared.ids.Found.{Found}
use Rattle.jc_index.proofs.Lookups.{answer_none}
use Rattle.jc_rows.specs.declared.row.RowItem.{RowItem}
use Rattle.jc_rows.specs.Keys.{numbered_keys}
use Rattle.jc_rows.specs.Rows.{entry, IsRow, IsMethodRow, lookup_choices}
use Rattle.jc_rows.specs.steps.Fronts.{front_method}
use Rattle.jc_rows.specs.steps.Gathering.{row_named, first_entry, super_entry, HasAbove, Gathers}
use Rattle.jc_rows.specs.steps.Settling.{IsSource}
use Rattle.jc_rows.proofs.RowsAbove.{none_above}
use Rattle.jc_rows.proofs.Unfound.{none_declared, none_given}

module _ (W : World) (rows : List (List RowItem)) where
  abbrev pub IsThere : Bytes → Type 0
  IsThere s = IsMethodRow W s (row_named W rows s)

  -- what has no entry for a key finds nothing of it
  missing : (n : ℕ) (k : Key) → slice_get (numbered_keys W) n ≡ Some k → (s : Bytes) → IsThere s → entry (row_named W rows s) n ≡ None → lookup_choices W s k ≡ []
  missing n k e s t h = subst (λ (o : Option Found). IsChoice W o (lookup_choices W s k)) h (t.found n k e)

  firsts : (n : ℕ) (k : Key) → slice_get (numbered_keys W) n ≡ Some k → (xs : List Bytes) → EachOf IsThere xs → first_entry W rows xs n ≡ None → EachOf (λ z. lookup_choices W z k ≡ []) xs
  unfolding first_some
  firsts n k e [] t h = tt
  firsts n k e (x ∷ xs) t h = let p = or_else-none (entry (row_named W rows x) n) (first_entry W rows xs n) h in (missing n k e x t.0 p.0, firsts n k e xs t.1 p.1)

  all : (n : ℕ) (k : Key) → slice_get (numbered_keys W) n ≡ Some k → (s : Option Bytes) (is : List Bytes) → EachOf IsThere (supers_of s is) → first_entry W rows is n ≡ None → super_entry W rows s n ≡ None → EachOf (λ z. lookup_choices W z k ≡ []) (supers_of s is)
  unfolding and_then
  all n k e None is t h g = firsts n k e is t h
  all n k e (Some s) is t h g = (missing n k e s t.0 g, firsts n k e is t.1 h)

  pub is_source : (x : Bytes) (c : ClassFacts) → find_class W x ≡ Some c → load_fault W x ≡ None → HasAbove (IsMethodRow W) W rows x → (front made : List RowItem) → IsRow W (front_method W x) front → Gathers W rows c front made
      → IsSource W x made
  is_source x c f h above front made r g =
      let there : EachOf IsThere (supers c) = recursion_from_All IsThere (supers c) (above c f) in
      record {
        rises = g.rises;
        within = λ n e. g.entries n ∙ or_else-both (entry front n) (or_else (first_entry W rows c.interfaces n) (super_entry W rows c.superclass n)) (r.within n e) (none_above W rows n c (EachOf-map (λ s t. t.within n e) (supers c) there));
        complete = λ n k e q.
            let p = or_else-none (entry front n) (or_else (first_entry W rows c.interfaces n) (super_entry W rows c.superclass n)) (sym (g.entries n) ∙ q) in
            let b = or_else-none (first_entry W rows c.interfaces n) (super_entry W rows c.superclass n) p.1 in (
              answer_none W (front_method W x k) (subst (λ (o : Option Found). IsAnswer W o (front_method W x k)) p.0 (r.found n k e)),
              none_declared W k x (none_given W k x c f h (all n k e c.superclass c.interfaces there b.0 b.1)),
            );
      }
