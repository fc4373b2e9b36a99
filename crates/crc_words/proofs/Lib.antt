pub mod StepLemmas
pub mod TextLemmas
pub mod TableTests
pub mod LaneLemmas
pub mod WordLemmas
pub mod BurstLemmas
pub mod DivisionLemmas
pub mod FitLemmas
