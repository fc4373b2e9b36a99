pub mod Orders
pub mod Ahead
pub mod Walks
pub mod Turns
pub mod Ways
-- Passed on to the crates above.
pub use Rattle.path_walks.specs.declared.walk
pub use Rattle.path_walks.specs.Holds
pub use Rattle.path_walks.specs.Walks as OnePath
pub use Rattle.path_walks.specs.Answers
pub use Rattle.directories.specs.Shown
pub use Rattle.directories.specs.Taking
