pub mod Notes
pub mod Sitting
pub mod Keeping
pub mod Playing
pub mod Lending
pub mod Shelved
