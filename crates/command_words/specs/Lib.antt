pub mod Options
pub mod Commands
pub mod Kept
pub mod Limits
pub mod Order
pub mod Places
