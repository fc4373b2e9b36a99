pub mod Changing
pub mod Keeping
pub mod Pads
pub mod Joining
pub mod Rising
pub mod Clearing
pub mod Sized
-- Passed on to the crates above.
pub use Rattle.file_fills.proofs.Counted
pub use Rattle.file_fills.proofs.Headers
pub use Rattle.file_fills.proofs.Over
pub use Rattle.file_fills.proofs.Seeing
pub use Rattle.file_fills.proofs.Turns
pub use Rattle.file_fills.proofs.Ways
