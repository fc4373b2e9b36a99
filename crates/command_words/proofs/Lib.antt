pub mod OptionLaws
pub mod KeptLaws
pub mod Reading
pub mod Rows
pub mod OrderLaws
pub mod PlaceLaws
pub mod LimitLaws
