pub mod Bringing
pub mod Replaying
pub mod Items
pub mod Quiet
pub mod Starting
pub mod Heads
pub mod Owning
pub mod Wholes
pub mod Last
pub mod Running
pub mod Resting
pub mod Telling
pub mod Fronts
pub mod StartFronts
pub mod RunFronts
-- Passed on to the crates above.
pub use Rattle.logged_runs.proofs.Starting as LoggedRunsStarting
pub use Rattle.logged_runs.proofs.Telling as LoggedRunsTelling
pub use Rattle.logged_runs.proofs.Counting
