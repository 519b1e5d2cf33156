pub mod ItemSteps
pub mod Asked
pub mod TakenNames
pub mod TableRefusals
