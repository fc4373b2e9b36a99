pub mod Parts
pub mod Calls
pub mod Laws
pub mod Example
