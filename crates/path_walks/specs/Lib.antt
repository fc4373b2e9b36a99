pub mod Holds
pub mod Walks
pub mod Answers
-- Passed on to the crates above.
pub use Rattle.directories.specs.Shown as DirectoryShown
pub use Rattle.draft_changes.specs.Resizing
