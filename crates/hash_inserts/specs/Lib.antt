pub mod Needing
pub mod Inserting
pub mod Writing
pub mod Drafting
pub mod Walking
pub mod Converting
pub mod Laws
pub mod Counting
pub mod Finding
pub mod Advancing
pub mod Committing
-- Passed on to the crates above.
pub use Rattle.hash_steps.specs.Leaves
pub use Rattle.hash_steps.specs.Steps
pub use Rattle.table_changes.specs.Tables
pub use Rattle.table_changes.specs.Pointers
pub use Rattle.hash_steps.specs.Shown
pub use Rattle.hash_steps.specs.Broken
pub use Rattle.hash_steps.specs.Walking as ChainWalking
pub use Rattle.hash_steps.specs.chains
