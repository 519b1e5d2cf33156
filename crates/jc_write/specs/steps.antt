pub mod EntryOrder
pub mod EntryView
pub mod Needed
