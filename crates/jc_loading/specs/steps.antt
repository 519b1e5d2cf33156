pub mod Entering
pub mod Passing
pub mod Met
