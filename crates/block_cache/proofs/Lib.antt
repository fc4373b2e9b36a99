pub mod Reaching
pub mod Shelving
pub mod Ties
