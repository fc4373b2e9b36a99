pub mod Counting
pub mod Removing
pub mod Need
pub mod Writing
pub mod Ends
pub mod Cutting
pub mod NameNeed
-- Passed on to the crates above.
pub use Rattle.file_changes.proofs.Standing
