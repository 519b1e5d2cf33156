pub mod Pairs
pub mod Exposed
pub mod FirstExposed
