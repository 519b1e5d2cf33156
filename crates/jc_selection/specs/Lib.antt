pub mod SelectionKept
pub mod Shown
