pub mod Fitting
pub mod Unminded
pub mod Answering
pub mod Headlines
