pub mod Legal
pub mod Rows
pub mod Changing
pub mod Living
