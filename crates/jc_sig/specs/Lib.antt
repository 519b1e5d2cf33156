pub mod Trees
pub mod Grammar
pub mod Rule
pub mod Reading
pub mod Views
pub mod Notes
pub mod steps
