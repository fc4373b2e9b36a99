pub mod Rowing
pub mod Marking
pub mod Losing
pub mod Asking
