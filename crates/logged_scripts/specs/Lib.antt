pub mod Crashes
pub mod Beginning
pub mod Ends
pub mod Runs
-- Passed on to the crates above.
pub use Rattle.whole_runs.specs.LoggedRunsStarts as Starts
pub use Rattle.logged_calls.specs.Faults
pub use Rattle.whole_runs.specs.Starts as WholeRunsStarts
pub use Rattle.logged_calls.specs.Sizes
pub use Rattle.logged_calls.specs.Nodes
pub use Rattle.whole_runs.specs.Points
pub use Rattle.logged_calls.specs.Beginning as LoggedNodeBeginning
pub use Rattle.logged_calls.specs.node
pub use Rattle.lone_ends.specs.Laws as LoggedLaws
pub use Rattle.whole_runs.specs.States
pub use Rattle.logged_calls.specs.Working
pub use Rattle.logged_calls.specs.Ends as LoggedCallsEnds
pub use Rattle.logged_calls.specs.Laws
pub use Rattle.whole_runs.specs.Laws as LoggedRunsLaws
pub use Rattle.whole_runs.specs.StepLaws
pub use Rattle.whole_runs.specs.Steps
pub use Rattle.whole_runs.specs.Resting
pub use Rattle.whole_runs.specs.Wholes
pub use Rattle.whole_runs.specs.Fails
pub use Rattle.whole_runs.specs.StepEnds
pub use Rattle.whole_runs.specs.Ends as LoggedRunsEnds
pub use Rattle.whole_runs.specs.StepStarts
pub use Rattle.whole_runs.specs.Disks
pub use Rattle.whole_runs.specs.Standing
pub use Rattle.whole_runs.specs.Fronts
