pub mod Empty
pub mod Rows
pub mod Journals
pub mod Inside
pub mod Adding
pub mod Flushing
pub mod Locks
pub mod Ending
