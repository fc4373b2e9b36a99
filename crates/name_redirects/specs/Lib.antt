pub mod Leading
pub mod Redirects
