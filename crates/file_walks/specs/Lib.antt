pub mod Walks
pub mod Going
-- Passed on to the crates above.
pub use Rattle.growth_steps.specs.New
