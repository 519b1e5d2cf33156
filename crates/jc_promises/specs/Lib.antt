pub mod Pairs
pub mod client
pub mod rule
pub mod plan
