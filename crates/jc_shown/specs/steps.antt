-- Words of the clauses of private functions.
pub mod PutFiles
