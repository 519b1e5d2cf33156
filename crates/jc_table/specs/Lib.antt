pub mod Tables
pub mod TableFields
pub mod RowKeys
pub mod steps
