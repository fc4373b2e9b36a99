pub mod Loggable
