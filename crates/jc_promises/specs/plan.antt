pub mod PlannedNames
pub mod Planned
pub mod PlannedBodies
