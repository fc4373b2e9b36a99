pub mod Dots
pub mod Answering
pub mod Lists
pub mod Trees
-- Passed on to the crates above.
pub use Rattle.path_walks.proofs.Asked
