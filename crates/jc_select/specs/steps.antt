-- Words of the clauses of private functions.
pub mod Kinds
pub mod Changes
pub mod Parts
pub mod Warned
pub mod Asked
pub mod Losing
