pub mod Bools
pub mod Listed
pub mod Lists
pub mod Numbers
pub mod Options
pub mod Utf8
