pub mod Working
pub mod Logging
-- Passed on to the crates above.
pub use Rattle.logged_steps.proofs.Telling
