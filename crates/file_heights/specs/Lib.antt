pub mod Keeping
pub mod Grown
pub mod Sized
-- Passed on to the crates above.
pub use Rattle.file_fills.specs.Causes
pub use Rattle.file_fills.specs.Filling
pub use Rattle.file_fills.specs.Headers
pub use Rattle.file_fills.specs.Turns
