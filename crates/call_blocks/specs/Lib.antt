pub mod Replaying
pub mod Lone
-- Passed on to the crates above.
pub use Rattle.lone_answers.specs.Answers
pub use Rattle.lone_answers.specs.Calls
pub use Rattle.lone_answers.specs.Reading
