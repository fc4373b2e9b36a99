pub mod Shown
pub mod Exchanges
pub mod Broken
pub mod Reading
