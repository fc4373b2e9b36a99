pub mod Images
pub mod Said
pub mod Course
pub mod Numbers
