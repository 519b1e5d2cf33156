pub mod ModularFile
pub mod ReadTree
