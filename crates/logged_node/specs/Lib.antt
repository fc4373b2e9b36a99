pub mod Ends
pub mod Nodes
pub mod Deeds
pub mod Flushing
pub mod Homing
pub mod Rooms
pub mod Leaving
pub mod Beginning
