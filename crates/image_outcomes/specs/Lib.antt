pub mod Outcomes
pub mod CutShort
