pub mod Pointers
pub mod Following
-- Passed on to the crates above.
pub use Rattle.hash_dirs.specs.Broken
pub use Rattle.hash_dirs.specs.Directories
pub use Rattle.hash_dirs.specs.Exchanging
pub use Rattle.hash_dirs.specs.Finding
pub use Rattle.hash_dirs.specs.Leaves
pub use Rattle.hash_dirs.specs.Shown
