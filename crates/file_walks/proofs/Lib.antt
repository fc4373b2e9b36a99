pub mod Above
pub mod Steps
-- Passed on to the crates above.
pub use Rattle.growth_steps.proofs.Stepping
