pub mod Shown
pub mod Broken
pub mod Finding
pub mod Exchanging
pub mod Walking
pub mod Spots
pub mod Leaves
-- Passed on to the crates above.
pub use Rattle.pointer_tables.specs.Directories
pub use Rattle.pointer_tables.specs.declared.pointer
