pub mod Lock
pub mod Mail
