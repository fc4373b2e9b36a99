pub mod Starts
pub mod Resting
pub mod Wholes
pub mod Fronts
-- Passed on to the crates above.
pub use Rattle.logged_runs.specs.Starts as LoggedRunsStarts
pub use Rattle.logged_runs.specs.Points
pub use Rattle.logged_runs.specs.States
pub use Rattle.logged_runs.specs.Laws
pub use Rattle.logged_runs.specs.StepLaws
pub use Rattle.logged_runs.specs.Steps
pub use Rattle.logged_runs.specs.Fails
pub use Rattle.logged_runs.specs.StepEnds
pub use Rattle.logged_runs.specs.Ends
pub use Rattle.logged_runs.specs.StepStarts
pub use Rattle.logged_runs.specs.Disks
pub use Rattle.logged_runs.specs.Standing
pub use Rattle.logged_runs.specs.LoggedLaws
