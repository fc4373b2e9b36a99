pub mod State
pub mod Queues
pub mod Order
