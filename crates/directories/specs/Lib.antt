pub mod Shown
pub mod Taking
-- Passed on to the crates above.
pub use Rattle.linear_dirs.specs.Broken
pub use Rattle.linear_dirs.specs.Shown as LinearShown
pub use Rattle.tree_tables.specs.Pointers
pub use Rattle.tree_tables.specs.Shown as HashedShown
pub use Rattle.tree_tables.specs.declared.tree_table
