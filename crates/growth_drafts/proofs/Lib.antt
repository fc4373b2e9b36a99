pub mod Shown
pub mod Rooms
pub mod Following
-- Passed on to the crates above.
pub use Rattle.growth_laws.proofs.Numbers
