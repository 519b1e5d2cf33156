-- Words of the clauses of private functions.
pub mod AccessLines
pub mod ConstantLines
pub mod JoinLines
pub mod Kinds
pub mod LostLines
pub mod Openly
