mod KeptBlocks
mod Looked
pub mod Untold
mod Moved
mod Added
mod Told
mod NoSpace
mod Changed
mod Testing
mod Room
mod Taken
mod Answered
-- Passed on to the crates above.
pub use Rattle.logged_node.proofs.Arming
pub use Rattle.logged_node.proofs.Blocks
pub use Rattle.logged_node.proofs.Disks
pub use Rattle.logged_node.proofs.Ended
pub use Rattle.logged_node.proofs.Unmounting
