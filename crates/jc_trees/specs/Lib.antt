pub mod Tree
pub mod TreeView
pub mod ClassFiles
pub mod ClassLists
pub mod FirstTree
pub mod ReadTrees
pub mod steps
