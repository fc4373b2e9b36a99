pub mod Needed
pub mod Forms
pub mod First
pub mod Linear
pub mod Converted
pub mod Puts
pub mod OnWay
pub mod Led
-- Passed on to the crates above.
pub use Rattle.directories.proofs.Forms as DirectoryForms
