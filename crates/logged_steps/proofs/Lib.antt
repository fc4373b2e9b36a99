pub mod Histories
pub mod Disks
pub mod Keeping
pub mod Failing
pub mod Beginning
pub mod Telling
pub mod Chunks
pub mod Heads
-- Passed on to the crates above.
pub use Rattle.call_blocks.proofs.Landed
pub use Rattle.lone_ends.proofs.Stages
pub use Rattle.call_blocks.proofs.Reading
