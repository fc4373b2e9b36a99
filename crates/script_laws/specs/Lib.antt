pub mod Fills
pub mod Printing
pub mod Places
