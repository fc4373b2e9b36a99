pub mod Versions
pub mod Kept
pub mod Seen
pub mod Slots
pub mod IsTables
