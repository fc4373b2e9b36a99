pub mod Fronts
pub mod Listed
pub mod Locks
-- Passed on to the crates above.
pub use Rattle.path_walks.proofs.Faults
pub use Rattle.path_walks.proofs.Images
pub use Rattle.path_walks.proofs.Lying
