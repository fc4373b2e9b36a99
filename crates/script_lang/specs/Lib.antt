pub mod Script
pub mod Words
pub mod Grammar
pub mod Reading
pub mod OneNode
pub mod WellFormed
pub mod Laws
pub mod Foreign
