pub mod Counting
mod Holding
mod Seeing
pub mod Taking
mod SameCells
mod Keeping
pub mod Steps
pub mod Reading
