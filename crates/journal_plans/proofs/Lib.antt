mod BadPlaces
mod Planned
mod WholeBlocks
pub mod Numbered
