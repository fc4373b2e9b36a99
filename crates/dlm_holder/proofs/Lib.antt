pub mod Writing
pub mod Covering
