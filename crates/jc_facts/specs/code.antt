pub mod Lengths
pub mod Code
pub mod Typing
pub mod ClientItems
