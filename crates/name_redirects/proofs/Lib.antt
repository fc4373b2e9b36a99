pub mod Led
pub mod Blocks
pub mod Linear
pub mod Hashed
pub mod Places
pub mod Redirected
