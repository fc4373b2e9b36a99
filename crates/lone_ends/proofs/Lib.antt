pub mod Blocks
pub mod Ending
pub mod Standing
pub mod Fencing
-- Passed on to the crates above.
pub use Rattle.lone_logs.proofs.Stages
