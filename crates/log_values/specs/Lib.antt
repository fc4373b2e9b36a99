pub mod Blocks
pub mod Log
pub mod Changes
pub mod Transactions
pub mod Flushing
pub mod Homing
pub mod Sound
pub mod Laws
