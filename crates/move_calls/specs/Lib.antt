pub mod Firsts
pub mod Checks
pub mod Carrying
pub mod Locks
pub mod Moved
pub mod Answering
-- Passed on to the crates above.
pub use Rattle.move_ends.specs.Ends as MoveEnds
pub use Rattle.name_moves.specs.Becoming as NameBecoming
pub use Rattle.name_moves.specs.Moving as NameMoving
pub use Rattle.move_ends.specs.PairWalks
pub use Rattle.move_ends.specs.Taking
pub use Rattle.move_ends.specs.Shown
pub use Rattle.move_ends.specs.PairOrders
