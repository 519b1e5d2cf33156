pub mod PoolEntries
pub mod Bodies
pub mod Written
pub mod TypedSteps
pub mod TypedItems
