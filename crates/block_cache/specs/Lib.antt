pub mod Cells
pub mod Calls
pub mod Shelving
pub mod Tie
pub mod IsTied
