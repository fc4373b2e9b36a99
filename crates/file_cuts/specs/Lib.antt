pub mod Cut
pub mod Progress
-- Passed on to the crates above.
pub use Rattle.file_fills.specs.Filling
pub use Rattle.file_growth.specs.Written
pub use Rattle.file_heights.specs.Grown
pub use Rattle.file_fills.specs.Causes
