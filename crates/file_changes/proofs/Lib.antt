pub mod Fresh
pub mod Standing
pub mod Resized
pub mod Cutting
pub mod Lying
pub mod Writing
pub mod Stepping
pub mod CutSteps
-- Passed on to the crates above.
pub use Rattle.group_locks.proofs.Locks
pub use Rattle.file_cuts.proofs.Tails
