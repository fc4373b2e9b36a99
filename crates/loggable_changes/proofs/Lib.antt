pub mod Structures
pub mod Logged
