-- Words of the clauses of private functions.
pub mod ClientsOf
pub mod KeySets
