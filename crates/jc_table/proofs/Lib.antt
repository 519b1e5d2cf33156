pub mod MemberKeys
pub mod Rows
pub mod RowKeys
pub mod InRows
