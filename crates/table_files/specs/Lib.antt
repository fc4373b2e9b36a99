pub mod Files
pub mod Laws
-- Passed on to the crates above.
pub use Rattle.table_growth.specs.Pointers
pub use Rattle.table_growth.specs.Tables
pub use Rattle.table_growth.specs.Written
pub use Rattle.tree_tables.specs.Pointers as TreePointers
pub use Rattle.tree_tables.specs.declared.tree_table
