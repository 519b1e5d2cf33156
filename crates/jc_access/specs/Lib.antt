pub mod Speaking
pub mod TypeTexts
pub mod SeatAccess
pub mod steps
