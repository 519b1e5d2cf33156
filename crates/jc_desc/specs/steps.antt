pub mod Counted
pub mod ClassEnd
