pub mod Acts
pub mod Forms
pub mod Outcome
pub mod Valid
pub mod Allowed
pub mod Seats
pub mod Linked
