pub mod Views
pub mod Steps
pub mod States
pub mod StateOrder
pub mod LockMaps
pub mod Names
