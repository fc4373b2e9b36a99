pub mod Burst
pub mod Division
pub mod Remainder
pub mod Table
pub mod TextNumber
