pub mod Points
pub mod Steps
pub mod Disks
pub mod Heads
pub mod Fails
pub mod Ends
pub mod Starts
pub mod Laws
-- Passed on to the crates above.
pub use Rattle.lone_ends.specs.Ends as NodeEnds
pub use Rattle.lone_ends.specs.Fences
pub use Rattle.lone_ends.specs.Laws as LoggedLaws
pub use Rattle.lone_ends.specs.States
pub use Rattle.call_blocks.specs.Answers
pub use Rattle.call_blocks.specs.Reading
pub use Rattle.lone_ends.specs.Lone
