pub mod New
pub mod Touched
