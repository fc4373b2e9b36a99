pub mod Lacking
pub mod Working
pub mod Tries
-- Passed on to the crates above.
pub use Rattle.file_calls.proofs.FoundLists
