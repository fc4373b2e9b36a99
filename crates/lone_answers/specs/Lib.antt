pub mod Answers
pub mod Faults
pub mod Laws
pub mod Reading
-- Passed on to the crates above.
pub use Rattle.file_calls.specs.Calls
pub use Rattle.file_calls.specs.Holds
pub use Rattle.file_calls.specs.Making
pub use Rattle.file_calls.specs.MoveEnds
pub use Rattle.file_calls.specs.Removing
pub use Rattle.file_calls.specs.Writing
pub use Rattle.file_calls.specs.MakingBlocks
pub use Rattle.file_calls.specs.PairOrders
pub use Rattle.file_calls.specs.FoundBlocks
