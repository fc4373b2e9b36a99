mod AfterFirst
mod Blocks
mod Blockwise
mod Converted
mod Chosen
mod LeafBytes
mod Doubling
mod Lengthened
mod Longer
mod Looks
mod FirstTable
mod Parted
mod Pointing
mod PartedDrafts
mod Put
mod Results
mod Seen
mod Settled
mod Showing
mod Trees
mod TwoLeaves
mod Walks
mod DoubleOn
mod Inserted
pub mod Joined
pub mod Onward
mod SplitOn
mod Needed
mod After
mod Past
mod Counted
mod Over
mod Only
-- Passed on to the crates above.
pub use Rattle.hash_steps.proofs.Joins
pub use Rattle.hash_steps.proofs.Put as PutSteps
pub use Rattle.hash_steps.proofs.Sound
pub use Rattle.hash_steps.proofs.Chained
pub use Rattle.hash_steps.proofs.Along
pub use Rattle.hash_steps.proofs.ChainLeaves
