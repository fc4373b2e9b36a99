pub mod Rings
pub mod Images
pub mod Disks
pub mod Laws
