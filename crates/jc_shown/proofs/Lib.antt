pub mod FilesPut
pub mod WitnessPaths
pub mod PathsApart
pub mod CausesPut
