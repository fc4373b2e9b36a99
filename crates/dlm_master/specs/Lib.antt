pub mod Claims
pub mod LockState
pub mod Locks
pub mod Tables
pub mod Runs
pub mod Laws
