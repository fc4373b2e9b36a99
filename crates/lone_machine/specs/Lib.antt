pub mod Alone
pub mod Versions
pub mod Laws
