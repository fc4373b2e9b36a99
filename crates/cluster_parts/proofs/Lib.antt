pub mod Stopping
pub mod Parting
pub mod Minding
pub mod Flying
