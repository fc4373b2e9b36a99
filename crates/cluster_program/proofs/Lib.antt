pub mod Mounts
pub mod Heads
pub mod Left
mod Kept
pub mod Placed
pub mod Small
pub mod Alone
pub mod Shows
pub mod ReplayItems
pub mod Begun
pub mod Gone
pub mod Scripts
pub mod Courses
pub mod Made
pub mod Images
pub mod Ends
pub mod Counts
pub mod Complete
