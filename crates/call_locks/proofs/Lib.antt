pub mod Ways
pub mod Paths
pub mod Orders
pub mod Reaches
pub mod Changes
pub mod Elsewhere
