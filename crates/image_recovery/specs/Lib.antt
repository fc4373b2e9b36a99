pub mod Recoveries
pub mod Laws
pub mod Ended
pub mod Left
pub mod Counts
