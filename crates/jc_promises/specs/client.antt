pub mod Names
pub mod Scope
pub mod Reach
pub mod Meets
pub mod Keeps
pub mod Kept
