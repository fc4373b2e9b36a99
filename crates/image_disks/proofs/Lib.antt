pub mod Finding
pub mod Replaying
pub mod Standing
pub mod Lone
