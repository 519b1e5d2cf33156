pub mod Dots
pub mod Changes
pub mod OnRecords
