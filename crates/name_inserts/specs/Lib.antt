pub mod Need
pub mod Inserting
pub mod Way
-- Passed on to the crates above.
pub use Rattle.directories.specs.Shown as DirectoryShown
pub use Rattle.hash_inserts.specs.Inserting as HashInserting
pub use Rattle.hash_inserts.specs.Needing
pub use Rattle.hash_inserts.specs.Tables
pub use Rattle.hash_inserts.specs.Pointers
