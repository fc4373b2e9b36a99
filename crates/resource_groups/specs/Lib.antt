pub mod Shown
pub mod Finding
pub mod Counting
pub mod Putting
pub mod Numbering
pub mod Freeing
pub mod Taking
