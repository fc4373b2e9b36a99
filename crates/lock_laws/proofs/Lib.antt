pub mod Keeping
pub mod Mailing
