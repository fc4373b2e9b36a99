pub mod SameFiles
pub mod OtherPlaces
pub mod Found
pub mod Replays
pub mod Chosen
pub mod Outcomes
pub mod CutShort
