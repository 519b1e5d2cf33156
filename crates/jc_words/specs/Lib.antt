pub mod Arguments
pub mod Number
pub mod Help
pub mod Command
pub mod CommandView
pub mod Worked
pub mod steps
