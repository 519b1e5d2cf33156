pub mod Fails
pub mod steps
