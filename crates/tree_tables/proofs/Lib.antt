pub mod Told
pub mod Entries
pub mod Gets
-- Passed on to the crates above.
pub use Rattle.hash_dirs.proofs.Along
pub use Rattle.hash_dirs.proofs.Chained
pub use Rattle.hash_dirs.proofs.Cuts
pub use Rattle.hash_dirs.proofs.InAll
pub use Rattle.hash_dirs.proofs.Leaves
pub use Rattle.hash_dirs.proofs.Named
