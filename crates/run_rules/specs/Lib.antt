pub mod Follows
pub mod History
pub mod Laws
pub mod Lives
pub mod Recoveries
pub mod Heads
