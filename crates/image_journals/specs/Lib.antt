pub mod Sizes
pub mod Blocks
pub mod Frames
pub mod Shown
pub mod Sound
pub mod Found
pub mod Laws
pub mod Adding
