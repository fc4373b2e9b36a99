pub mod Memory
pub mod Sharing
pub mod Crosses
pub mod Regions
pub mod Side
pub mod Order
pub mod Pooling
