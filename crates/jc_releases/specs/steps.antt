-- Words of the clauses of private functions.
pub mod Trees
pub mod Releases
