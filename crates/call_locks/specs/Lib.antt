pub mod Wants
pub mod WantLaws
