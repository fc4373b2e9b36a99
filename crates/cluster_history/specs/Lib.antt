pub mod History
pub mod Changes
pub mod Losses
