pub mod Headers
pub mod Items
pub mod Replays
pub mod Crashes
pub mod Bringing
pub mod Faults
