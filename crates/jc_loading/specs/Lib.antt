pub mod PlatformLoads
pub mod PlatformFields
pub mod steps
