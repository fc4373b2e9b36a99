pub mod NodeSets
pub mod Members
pub mod Laws
