pub mod Filling
pub mod Counting
pub mod Causes
pub mod Progress
pub mod Turns
pub mod Headers
-- Passed on to the crates above.
pub use Rattle.file_walks.specs.Walks
pub use Rattle.file_walks.specs.declared.walks as walk_stops
