pub mod KeptOnSides
pub mod NamedAbove
pub mod Subjects
pub mod ByClass
pub mod BrokenActs
pub mod KeySets
pub mod MadeKeys
mod FinalKeys
mod TranslatedKeys
pub mod MemberKeys
mod TestedClasses
pub mod ByItems
pub mod Limits
pub mod ItemRules
pub mod BaseParts
pub mod Pair
pub mod Seen
mod Permitted
mod Across
pub mod Rising
