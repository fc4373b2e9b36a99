pub mod Drafting
pub mod Heads
pub mod Leading
pub mod Freed
pub mod Past
pub mod Going
pub mod Ways
pub mod Steps
pub mod Place
pub mod Ending
pub mod Finishing
-- Passed on to the crates above.
pub use Rattle.file_fills.proofs.Tails
