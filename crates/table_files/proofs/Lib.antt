pub mod ContentParts
pub mod Alike
pub mod Pieces
pub mod Filled
pub mod TableFiles
pub mod TableBytes
pub mod Back
-- Passed on to the crates above.
pub use Rattle.tree_tables.proofs.Entries
pub use Rattle.tree_tables.proofs.Gets
pub use Rattle.tree_tables.proofs.Cuts
