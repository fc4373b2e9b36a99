pub mod Moving
pub mod Splitting
pub mod Parts
pub mod Laws
