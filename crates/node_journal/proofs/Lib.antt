pub mod Arounds
pub mod NumbersPut
pub mod Pieces
pub mod Selected
pub mod Placing
pub mod Heads
pub mod Indexed
pub mod Lengths
