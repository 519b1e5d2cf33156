mod AccessKept
mod JoinsKept
mod Kept
mod Lost
mod LostAccess
mod LostJoins
mod Openly
pub mod Parted
pub mod WorkedAccess
pub mod WorkedConstants
pub mod WorkedJoins
pub mod WorkedReferences
