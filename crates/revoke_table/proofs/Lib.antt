pub mod Cancelling
