mod Places
pub mod ShortPaths
mod Listings
pub mod Results
mod FrontRead
pub mod TreeRead
pub mod Libraries
mod TreesRead
pub mod OneFault
pub mod OneRead
pub mod TakenReads
pub mod Gathered
pub mod SomeTrees
