pub mod Below
pub mod Locks
pub mod Standing
pub mod Behind
