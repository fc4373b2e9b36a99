pub mod Stopped
pub mod Ending
pub mod Failed
pub mod FailedReplays
-- Passed on to the crates above.
pub use Rattle.image_outcomes.proofs.CutShort
pub use Rattle.image_outcomes.proofs.Found
pub use Rattle.image_recovery.proofs.Ending as RecoveryEnding
pub use Rattle.image_recovery.proofs.Mapped
pub use Rattle.image_recovery.proofs.LeftStanding
