pub mod Drafting
pub mod Steps
pub mod Laws
pub mod Paths
-- Passed on to the crates above.
pub use Rattle.name_inserts.specs.HashInserting
pub use Rattle.name_inserts.specs.Inserting
pub use Rattle.name_inserts.specs.Need
pub use Rattle.name_inserts.specs.Needing
pub use Rattle.name_inserts.specs.DirectoryShown
pub use Rattle.name_inserts.specs.Way
pub use Rattle.path_walks.specs.declared.walk
pub use Rattle.path_walks.specs.Answers
pub use Rattle.path_walks.specs.Holds
pub use Rattle.path_walks.specs.Walks
