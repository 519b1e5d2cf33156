-- What is kept of what stands above each class.
use Rattle.jc_index.specs.Sides.{IsSide}
use Rattle.jc_index.specs.Above.{AreRows}
use Rattle.jc_index.specs.declared.hierarchy.Hierarchy.TheInside.{Inside}

-- the index is of a side, and what else is kept is of the index's classes
pub record IsHierarchy (h : Inside) : Type 0 where
  pub side : IsSide h.index
  pub interfaces : AreRows h.index h.interfaces
