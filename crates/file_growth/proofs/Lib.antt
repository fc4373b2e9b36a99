pub mod Lengths
pub mod Writes
-- Passed on to the crates above.
pub use Rattle.file_heights.proofs.Counted
pub use Rattle.file_heights.proofs.Headers
pub use Rattle.file_heights.proofs.Over
