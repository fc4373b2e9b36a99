pub mod Blocks
pub mod Searches
pub mod Making
-- Passed on to the crates above.
pub use Rattle.name_drafts.specs.HashInserting
pub use Rattle.name_drafts.specs.Inserting
pub use Rattle.name_drafts.specs.Way
pub use Rattle.name_drafts.specs.Drafting
pub use Rattle.name_drafts.specs.Need
pub use Rattle.name_drafts.specs.walk
pub use Rattle.room_search.specs.Blocks as FoundBlocks
pub use Rattle.room_search.specs.Searches as FoundSearches
