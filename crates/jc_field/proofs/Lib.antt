pub mod Declared
pub mod Steps
pub mod Levels
pub mod Rows
