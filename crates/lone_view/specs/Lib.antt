pub mod Groups
pub mod Seeing
