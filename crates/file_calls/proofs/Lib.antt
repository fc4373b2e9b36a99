pub mod Blocks
pub mod Made
pub mod Lacked
-- Passed on to the crates above.
pub use Rattle.making_calls.proofs.Led
pub use Rattle.move_calls.proofs.Goings as MoveGoings
pub use Rattle.move_calls.proofs.Loses
pub use Rattle.move_calls.proofs.Alike
pub use Rattle.move_calls.proofs.Imaged
pub use Rattle.making_calls.proofs.SeenPaths
pub use Rattle.move_calls.proofs.Places
pub use Rattle.making_calls.proofs.Images
pub use Rattle.making_calls.proofs.FoundLists
pub use Rattle.making_calls.proofs.Leads
pub use Rattle.making_calls.proofs.Lists
pub use Rattle.making_calls.proofs.FoundInImage
pub use Rattle.making_calls.proofs.Free
