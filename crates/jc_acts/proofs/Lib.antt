pub mod SeatChains
mod Changed
pub mod SetFlags
mod SetAbove
mod UsedAt
pub mod Firsts
mod LookedUp
mod Steps
mod Upwards
mod Narrowed
mod BothLooked
mod Roots
pub mod Losses
pub mod LostChains
pub mod Untouched
mod Beside
mod Wider
mod Covering
mod OpenToAll
mod Gathered
