pub mod Inheriting
pub mod FoundKeys
