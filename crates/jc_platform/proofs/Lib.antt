mod Alike
mod Parts
mod EnoughLaws
pub mod WorkedEnough
pub mod WorkedCheck
