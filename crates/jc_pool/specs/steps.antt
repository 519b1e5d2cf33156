pub mod Forms
pub mod Slots
pub mod Texts
pub mod Bodies
pub mod LongNames
