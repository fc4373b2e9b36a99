pub mod Removing
pub mod Drafting
