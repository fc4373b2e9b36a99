pub mod Rising
pub mod Gaining
pub mod Flying
pub mod Stopping
pub mod Crashing
