pub mod Growing
pub mod Moving
pub mod Shrinking
