pub mod Working
pub mod Logging
-- Passed on to the crates above.
pub use Rattle.logged_steps.specs.Fails
pub use Rattle.logged_steps.specs.Laws
pub use Rattle.logged_steps.specs.Points
pub use Rattle.logged_steps.specs.Steps
pub use Rattle.small_calls.specs.Sizes
