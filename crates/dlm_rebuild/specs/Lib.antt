pub mod Rebuilding
pub mod Runs
