pub mod FirstBlocks
pub mod Behind
pub mod Answered
pub mod Over
pub mod OfMounted
