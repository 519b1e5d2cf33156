pub mod FoundKeys
pub mod steps
