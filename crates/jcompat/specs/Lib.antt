pub mod Answers
pub mod Program
pub mod Alike
pub mod steps
