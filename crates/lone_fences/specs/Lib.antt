pub mod Ends
pub mod Heads
pub mod Fencing
