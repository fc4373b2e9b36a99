pub mod Revoking
pub mod Entries
