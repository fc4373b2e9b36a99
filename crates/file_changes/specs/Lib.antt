pub mod Drafting
pub mod Making
-- Passed on to the crates above.
pub use Rattle.file_cuts.specs.Filling
pub use Rattle.group_locks.specs.Groups
pub use Rattle.group_locks.specs.Laws
pub use Rattle.file_cuts.specs.Cut
pub use Rattle.file_cuts.specs.Written
pub use Rattle.file_cuts.specs.Grown
pub use Rattle.file_cuts.specs.Causes
