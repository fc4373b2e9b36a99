pub mod Lists
pub mod Clients
pub mod Told
pub mod Following
pub mod Runs
pub mod GoingOn
