pub mod Lists
pub mod SystemRows
pub mod SameSystem
pub mod Replaying
pub mod Lone
-- Passed on to the crates above.
pub use Rattle.lone_logs.proofs.Landed
pub use Rattle.lone_logs.proofs.Reading
