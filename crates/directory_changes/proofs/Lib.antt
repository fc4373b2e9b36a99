pub mod Blocks
pub mod Holds
pub mod Targets
pub mod Grown
pub mod Shrunk
pub mod Moved
