pub mod Fields
pub mod Headers
pub mod Descriptors
pub mod Journal
pub mod Chunks
pub mod Transactions
pub mod Live
pub mod Laws
