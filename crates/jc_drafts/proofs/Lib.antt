mod LowestOfNames
mod Packages
pub mod ClassesByName
mod PermittedNames
mod TwoNames
mod ConstructorsOf
pub mod ExposedParts
