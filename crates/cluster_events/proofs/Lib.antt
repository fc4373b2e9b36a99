pub mod Locking
pub mod Eventing
