pub mod Outcomes
-- Passed on to the crates above.
pub use Rattle.image_outcomes.proofs.SameFiles
