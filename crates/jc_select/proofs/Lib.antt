mod Answered
mod AskedKeys
mod ChainKeys
mod Chains
mod ChangedKeys
mod Collected
mod Compared
mod DroppedLimits
mod DroppedRows
mod LostRows
mod SetMarks
mod SetsOf
mod StillAgree
mod Unchanged
pub mod KindsWarned
pub mod Limited
pub mod WarnedKeys
