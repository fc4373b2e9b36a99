pub mod Below
pub mod Going
