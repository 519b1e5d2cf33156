pub mod Completeness
pub mod Premises
