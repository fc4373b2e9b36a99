pub mod Steps
pub mod Images
pub mod Lists
pub mod Longer
pub mod Walking
pub mod Leads
pub mod Lying
pub mod Faults
pub mod Wants
pub mod Refused
pub mod Asked
-- Passed on to the crates above.
pub use Rattle.draft_changes.proofs.Rows
pub use Rattle.draft_changes.proofs.Views
