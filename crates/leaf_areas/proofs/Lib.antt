pub mod Alone
pub mod Next
pub mod Packing
pub mod Between
pub mod Cuts
pub mod Told
pub mod Records
