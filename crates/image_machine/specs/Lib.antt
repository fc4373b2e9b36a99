pub mod Volumes
pub mod Cells
pub mod Laws
