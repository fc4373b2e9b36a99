pub mod Shown
pub mod Groups
pub mod Adding
pub mod Removing
pub mod Rewriting
pub mod Resizing
