pub mod Going
pub mod Logging
pub mod Remaining
