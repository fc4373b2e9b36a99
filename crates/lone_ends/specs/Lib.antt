pub mod Ends
pub mod Fences
-- Passed on to the crates above.
pub use Rattle.lone_logs.specs.Laws
pub use Rattle.lone_logs.specs.States
pub use Rattle.lone_logs.specs.Lone
