pub mod Heads
pub mod Blocks
pub mod Outcomes
pub mod Settled
