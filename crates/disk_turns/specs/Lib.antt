pub mod Writing
pub mod Turns
pub mod Crashes
pub mod Faults
