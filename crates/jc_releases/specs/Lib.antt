pub mod Command
pub mod Stop
pub mod Releases
pub mod steps
