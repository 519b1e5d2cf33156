pub mod Above
pub mod Explains
pub mod Lines
pub mod Worked
