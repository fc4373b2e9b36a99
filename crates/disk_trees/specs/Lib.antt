pub mod Reading
pub mod Answers
-- Passed on to the crates above.
pub use Rattle.image_replays.specs.Laws as ReplayLaws
