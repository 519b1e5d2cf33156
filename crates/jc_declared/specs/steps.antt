-- Words of the clauses of private functions.
pub mod Changed
pub mod Classes
pub mod Constructors
pub mod Methods
pub mod Notes
pub mod Own
