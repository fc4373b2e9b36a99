pub mod Forms
pub mod Sound
pub mod Headed
pub mod Taken
pub mod Counted
-- Passed on to the crates above.
pub use Rattle.tree_tables.proofs.Chained
