pub mod Directories
pub mod Tables
