pub mod ClosedActs
pub mod Seats
pub mod Touched
pub mod Untouched
pub mod steps
