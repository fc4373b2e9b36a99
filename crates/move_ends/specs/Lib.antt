pub mod Over
pub mod Ends
-- Passed on to the crates above.
pub use Rattle.pair_walks.specs.Walks as PairWalks
pub use Rattle.pair_walks.specs.Answers
pub use Rattle.pair_walks.specs.Holds
pub use Rattle.pair_walks.specs.walk
pub use Rattle.pair_walks.specs.OnePath as Walks
pub use Rattle.pair_walks.specs.Taking
pub use Rattle.pair_walks.specs.Shown
pub use Rattle.pair_walks.specs.Orders as PairOrders
