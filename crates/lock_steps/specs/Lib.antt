pub mod Modes
pub mod Runs
pub mod Parts
pub mod Ties
pub mod Calls
pub mod Laws
pub mod Exact
pub mod Example
