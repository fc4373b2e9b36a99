pub mod Placing
pub mod Beginning
pub mod Ends
pub mod Runs
pub mod Laws
pub mod Telling
-- Passed on to the crates above.
pub use Rattle.logged_scripts.specs.declared.ends as logged_scripts_ends
pub use Rattle.logged_scripts.specs.Starts
pub use Rattle.logged_scripts.specs.Faults
pub use Rattle.logged_scripts.specs.Runs as LoggedScriptsRuns
pub use Rattle.logged_scripts.specs.WholeRunsStarts
pub use Rattle.logged_scripts.specs.Sizes
pub use Rattle.logged_scripts.specs.Ends as LoggedScriptsEnds
pub use Rattle.logged_scripts.specs.Points
