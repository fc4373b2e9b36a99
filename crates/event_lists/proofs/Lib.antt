pub mod Calling
pub mod Stopping
pub mod Recovering
pub mod Demoting
pub mod Beginning
pub mod Homing
pub mod Staging
pub mod Aparting
