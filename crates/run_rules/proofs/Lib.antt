pub mod Nothing
pub mod Passing
pub mod CarriedOut
pub mod Heads
