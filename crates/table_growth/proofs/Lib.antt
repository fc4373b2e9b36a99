-- Passed on to the crates above.
pub use Rattle.file_growth.proofs.Counted
pub use Rattle.file_growth.proofs.Headers
pub use Rattle.file_growth.proofs.Over
pub use Rattle.file_growth.proofs.Writes
