pub mod Leaves
pub mod Steps
pub mod Laws
-- Passed on to the crates above.
pub use Rattle.hash_dirs.specs.Shown
pub use Rattle.hash_dirs.specs.Broken
pub use Rattle.hash_dirs.specs.Walking
pub use Rattle.hash_dirs.specs.declared.chains
