pub mod NodeSetLaws
pub mod LeastLaws
