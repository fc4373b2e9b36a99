pub mod Starts
pub mod Mounted
pub mod Heads
pub mod Ends
pub mod Standing
pub mod Laws
-- Passed on to the crates above.
pub use Rattle.logged_steps.specs.Points as Points
pub use Rattle.logged_steps.specs.Steps as Steps
pub use Rattle.logged_steps.specs.Disks as Disks
pub use Rattle.logged_steps.specs.Fails as Fails
pub use Rattle.logged_steps.specs.Ends as StepEnds
pub use Rattle.logged_steps.specs.Starts as StepStarts
pub use Rattle.logged_steps.specs.Laws as StepLaws
pub use Rattle.logged_steps.specs.LoggedLaws
pub use Rattle.logged_steps.specs.Ends as StepEnds
pub use Rattle.logged_steps.specs.States
