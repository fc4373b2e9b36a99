pub mod Failed
pub mod Stopped
-- Passed on to the crates above.
pub use Rattle.image_outcomes.specs.CutShort
pub use Rattle.image_recovery.specs.Recoveries
pub use Rattle.image_recovery.specs.Left
pub use Rattle.image_recovery.specs.Ended
pub use Rattle.journal_reads.specs.Reading
