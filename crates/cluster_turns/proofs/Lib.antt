pub mod Turning
pub mod Stopping
