pub mod WithRows
pub mod Keys
pub mod Rows
pub mod AllRows
pub mod steps
