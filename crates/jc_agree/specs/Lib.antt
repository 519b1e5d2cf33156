pub mod Compatible
pub mod NothingListed
pub mod Replays
pub mod Losses
pub mod OverAPart
pub mod SameSide
pub mod Steps
pub mod Numbers
