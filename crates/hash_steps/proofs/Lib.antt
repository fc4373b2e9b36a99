pub mod Joins
pub mod Sound
pub mod Leaves
pub mod Records
pub mod Contents
pub mod Halves
pub mod Put
pub mod Split
pub mod Lengthened
pub mod Doubled
pub mod Converted
-- Passed on to the crates above.
pub use Rattle.hash_dirs.proofs.Indexes
pub use Rattle.hash_dirs.proofs.Chained
pub use Rattle.hash_dirs.proofs.Leaves as ChainLeaves
pub use Rattle.hash_dirs.proofs.Along
pub use Rattle.hash_dirs.proofs.LeafHeads
pub use Rattle.hash_dirs.proofs.Cuts
