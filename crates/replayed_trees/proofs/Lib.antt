pub mod Causes
pub mod SoFar
pub mod Replay
pub mod ByPlans
pub mod Inside
pub mod SameFrames
pub mod Found
pub mod Marked
