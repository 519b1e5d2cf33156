-- What the rows of what a class names above itself agree on.
use Rattle.std.specs.Prelude.{ℕ, ◌≡◌, ◌==◌, ◌&&◌, Bool, true, List, Option, None, Some}
use Rattle.std.specs.List.{list_all}
use Rattle.jc_facts.specs.declared.class_facts.ClassFacts.{ClassFacts}
use Rattle.jc_facts.specs.Names.{Bytes}
use Rattle.jc_facts.specs.Options.{or_else}
use Rattle.jc_facts.specs.world.World.{World}
use Rattle.jc_index.specs.declared.ids.Found.{Found}
use Rattle.jc_rows.specs.declared.row.RowItem.{RowItem}
use Rattle.jc_rows.specs.Rows.{entry}
use Rattle.jc_rows.specs.steps.Gathering.{row_named, first_entry, super_entry}

-- there is no entry, or the same
abbrev pub agrees : Found → Option Found → Bool
agrees f None = true
agrees f (Some g) = g.owner == f.owner && g.flags == f.flags

-- the row of each of these classes has no entry for the number, or this one
abbrev pub all_agree : World → List (List RowItem) → ℕ → Found → List Bytes → Bool
all_agree W rows n f xs = list_all (λ x. agrees f (entry (row_named W rows x) n)) xs

-- of the rows of what the class c names above itself, one has f for the number, and each has that or nothing
pub record IsAgreed (W : World) (rows : List (List RowItem)) (c : ClassFacts) (n : ℕ) (f : Found) : Type 0 where
  pub given : or_else (first_entry W rows c.interfaces n) (super_entry W rows c.superclass n) ≡ Some f
  pub interfaces : all_agree W rows n f c.interfaces ≡ true
  pub superclass : agrees f (super_entry W rows c.superclass n) ≡ true
