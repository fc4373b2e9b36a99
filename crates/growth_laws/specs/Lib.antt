pub mod Files
pub mod Steps
pub mod Blocks
pub mod Need
pub mod Laws
pub mod Growing
