pub mod Holds
pub mod InImage
pub mod Inside
pub mod Rooms
pub mod Trees
pub mod Wanted
pub mod Under
pub mod At
pub mod Taking
-- Passed on to the crates above.
pub use Rattle.name_drafts.proofs.Led
pub use Rattle.name_drafts.proofs.SeenPaths
pub use Rattle.name_drafts.proofs.Images
pub use Rattle.room_search.proofs.Lists as FoundLists
pub use Rattle.name_drafts.proofs.Leads
pub use Rattle.name_drafts.proofs.Lists
pub use Rattle.room_search.proofs.InImage as FoundInImage
pub use Rattle.room_search.proofs.Free
