pub mod Chains
pub mod Commons
pub mod Firsts
pub mod Known
pub mod LookedUp
pub mod References
