pub mod Shown
pub mod Broken
pub mod Reading
pub mod Pads
pub mod Walking
pub mod Below
