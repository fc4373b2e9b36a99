pub mod Sure
