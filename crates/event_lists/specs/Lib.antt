pub mod Gives
pub mod Stops
pub mod Demotions
pub mod Begins
pub mod Homes
pub mod Stages
pub mod Calls
pub mod Apart
