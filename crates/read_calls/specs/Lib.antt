pub mod Reading
-- Passed on to the crates above.
pub use Rattle.path_walks.specs.Answers
pub use Rattle.path_walks.specs.Holds
pub use Rattle.path_walks.specs.Walks
