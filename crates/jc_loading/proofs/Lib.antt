pub mod Entering
pub mod Paths
pub mod Turns
pub mod Ordering
pub mod Loads
pub mod Overrides
