-- the constant pool
pub mod Collected
pub mod Absent
pub mod Needed
pub mod LowBytes
pub mod Slots
pub mod Linked
-- what is written is read back as the record
pub mod PiecesStand
pub mod ValidMembers
pub mod MembersStand
pub mod Joined
pub mod ClassAttributes
pub mod GoodNeeds
pub mod WholeFile
-- and as the items that the bodies type to
pub mod Decoded
pub mod StepRead
pub mod CodeRead
pub mod CodeTyped
pub mod CodeScanned
pub mod EachRan
pub mod LocalsKept
pub mod StartLocals
pub mod SamePool
pub mod BodyRead
pub mod MethodItems
pub mod ItemsWritten
-- the places on the stack
pub mod MostFrom
pub mod StackMoves
pub mod MostPlaces
