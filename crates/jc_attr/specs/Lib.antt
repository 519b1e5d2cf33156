pub mod Views
pub mod Forms
pub mod steps
