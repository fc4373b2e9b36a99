pub mod Lists
pub mod Free
pub mod Collected
pub mod Holds
pub mod Counted
pub mod Room
pub mod InImage
pub mod Shown
