pub mod Within
pub mod DroppedWithin
pub mod steps
