pub mod Keeping
pub mod Profiles
-- Passed on to the crates above.
pub use Rattle.lone_runs.specs.Beginning
pub use Rattle.lone_runs.specs.Ends
pub use Rattle.lone_runs.specs.Faults
pub use Rattle.lone_runs.specs.Laws
pub use Rattle.lone_runs.specs.LoggedScriptsEnds
pub use Rattle.lone_runs.specs.LoggedScriptsRuns
pub use Rattle.lone_runs.specs.Points
pub use Rattle.lone_runs.specs.Runs
pub use Rattle.lone_runs.specs.Sizes
pub use Rattle.lone_runs.specs.Starts
pub use Rattle.lone_runs.specs.Telling
pub use Rattle.lone_runs.specs.WholeRunsStarts
pub use Rattle.lone_runs.specs.declared.ends as lone_runs_ends
pub use Rattle.lone_runs.specs.logged_scripts_ends
