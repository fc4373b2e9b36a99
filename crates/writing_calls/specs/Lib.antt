pub mod Contents
pub mod Drafting
pub mod Writing
-- Passed on to the crates above.
pub use Rattle.file_changes.specs.Drafting as FileDrafting
