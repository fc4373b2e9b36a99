pub mod Becoming
pub mod Moving
pub mod Steps
-- Passed on to the crates above.
pub use Rattle.name_drafts.specs.Paths
pub use Rattle.name_drafts.specs.Inserting
pub use Rattle.name_drafts.specs.Way
pub use Rattle.name_drafts.specs.Need
pub use Rattle.name_drafts.specs.HashInserting
pub use Rattle.name_drafts.specs.Needing
pub use Rattle.group_locks.specs.Groups
