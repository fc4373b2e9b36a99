pub mod Inverted
pub mod Told
pub mod Cut
pub mod Brought
pub mod Crashing
pub mod Replayed
