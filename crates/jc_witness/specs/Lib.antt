pub mod Ground
pub mod PlannerFields
pub mod Exposing
pub mod Witnesses
pub mod steps
