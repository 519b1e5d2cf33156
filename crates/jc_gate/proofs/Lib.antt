pub mod Alone
pub mod Meanings
