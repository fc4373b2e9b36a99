pub mod Text
pub mod Kinds
