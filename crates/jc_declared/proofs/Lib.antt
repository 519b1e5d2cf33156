pub mod ChangedClasses
mod OwnFlags
mod FinalMethods
mod ClassGone
mod ClassClosed
pub mod ConstructorClosed
pub mod MethodMadeFinal
mod NewlyFinal
pub mod FinalAdded
pub mod InterfaceMethodLost
pub mod ConstantAdded
pub mod CaptureAdded
pub mod NoteUnloadable
mod NoteConstant
mod ClosedActs
pub mod FieldClosed
pub mod MethodClosed
