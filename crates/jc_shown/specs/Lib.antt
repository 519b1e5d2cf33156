pub mod Witness
pub mod Shown
pub mod steps
