pub mod Dropped
pub mod InterfacesKept
pub mod Lost
