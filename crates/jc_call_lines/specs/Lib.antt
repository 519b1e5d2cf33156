pub mod LinesWithin
pub mod steps
