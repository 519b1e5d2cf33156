-- Words of the clauses of private functions.
pub mod Chains
pub mod Losses
pub mod Within
