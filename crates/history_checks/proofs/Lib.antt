pub mod Spaces
pub mod Lives
pub mod Fronts
