pub mod Pointers
pub mod Tables
-- Passed on to the crates above.
pub use Rattle.file_growth.specs.Headers
pub use Rattle.file_growth.specs.Sized
pub use Rattle.file_growth.specs.Written
