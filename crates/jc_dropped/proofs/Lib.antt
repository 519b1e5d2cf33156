pub mod Held
pub mod DroppedLaws
mod Handing
pub mod WorkedDropped
pub mod WorkedTaken
pub mod WorkedKept
mod Lost
