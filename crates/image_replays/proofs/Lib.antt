pub mod Lists
pub mod SoFar
pub mod System
pub mod Replay
pub mod Stopped
mod Causes
