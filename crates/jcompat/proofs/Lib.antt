pub mod Ascents
pub mod Answered
pub mod Program
pub mod Surely
pub mod Passed
mod OneAnswer
mod Written
