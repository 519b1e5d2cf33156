-- What a table keeps.
use Rattle.std.specs.Prelude.{map, ◌≡◌}
use Rattle.jc_facts.specs.world.Loading.{load_fault}
use Rattle.jc_index.specs.Ids.{names}
use Rattle.jc_index.specs.Sides.{IsSide}
use Rattle.jc_rows.specs.AllRows.{AreRows}
use Rattle.jc_table.specs.declared.table.Table.TheInside.{Inside}

-- its classes are of a side, and what else it keeps is of these classes
pub record IsTable (t : Inside) : Type 0 where
  pub side : IsSide t.hierarchy
  pub faults : t.faults.items ≡ map (load_fault t.hierarchy) (names t.hierarchy)
  pub rows : AreRows t.hierarchy t.rows
