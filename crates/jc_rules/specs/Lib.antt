pub mod Bases
pub mod Verdicts
pub mod steps
