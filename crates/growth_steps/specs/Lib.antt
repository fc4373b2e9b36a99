pub mod New
pub mod Sizes
pub mod Heights
pub mod Becoming
pub mod Stuffed
