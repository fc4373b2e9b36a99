pub mod Over
pub mod Counted
pub mod Seeing
pub mod Ways
pub mod Further
pub mod Stepped
pub mod Pieces
pub mod Touching
pub mod Turns
pub mod Tails
pub mod Headers
-- Passed on to the crates above.
pub use Rattle.file_walks.proofs.Steps
