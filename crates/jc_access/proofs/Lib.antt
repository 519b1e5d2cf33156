pub mod Hosts
pub mod Assigned
pub mod Spoken
