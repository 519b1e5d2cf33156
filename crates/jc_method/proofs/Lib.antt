pub mod Chains
pub mod Offering
pub mod Declared
pub mod Rows
