pub mod Doubling
pub mod Setting
-- Passed on to the crates above.
pub use Rattle.table_files.specs.Pointers
pub use Rattle.table_files.specs.Tables
