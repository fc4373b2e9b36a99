pub mod Fixed
pub mod Rows
pub mod Inside
