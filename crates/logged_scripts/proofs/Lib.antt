mod Lists
pub mod Crashing
mod Members
mod Disks
mod Untouched
mod Going
pub mod Beginning
mod Taking
mod Leaving
mod Fenced
mod Causes
-- Passed on to the crates above.
pub use Rattle.whole_runs.proofs.Items
pub use Rattle.whole_runs.proofs.Running
pub use Rattle.whole_runs.proofs.Starting
pub use Rattle.whole_runs.proofs.Replaying
pub use Rattle.whole_runs.proofs.Quiet
pub use Rattle.whole_runs.proofs.LoggedRunsStarting
pub use Rattle.whole_runs.proofs.RunFronts
pub use Rattle.whole_runs.proofs.Bringing
pub use Rattle.whole_runs.proofs.LoggedRunsTelling as Telling
pub use Rattle.whole_runs.proofs.Last
