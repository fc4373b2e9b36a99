pub mod Disks
pub mod Lone
