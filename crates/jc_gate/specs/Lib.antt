pub mod Rules
pub mod Seen
pub mod Gates
pub mod Meanings
