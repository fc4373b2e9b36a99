pub mod Wanted
pub mod Trees
pub mod Locks
pub mod Listed
pub mod Aims
pub mod Told
pub mod Found
-- Passed on to the crates above.
pub use Rattle.pair_walks.proofs.Paths
pub use Rattle.removing_calls.proofs.Above
pub use Rattle.removing_calls.proofs.Found as RemovedFound
pub use Rattle.pair_walks.proofs.Asked
pub use Rattle.pair_walks.proofs.Images
pub use Rattle.pair_walks.proofs.Wants
pub use Rattle.pair_walks.proofs.Longer
pub use Rattle.pair_walks.proofs.Faults
pub use Rattle.pair_walks.proofs.Steps
pub use Rattle.pair_walks.proofs.Refused
pub use Rattle.pair_walks.proofs.Forms
pub use Rattle.pair_walks.proofs.Sound
