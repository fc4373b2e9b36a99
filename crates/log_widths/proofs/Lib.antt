pub mod Staying
pub mod Numbers
