pub mod Wants
pub mod Keys
pub mod Table
pub mod Calls
