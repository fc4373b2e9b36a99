pub mod States
pub mod Laws
-- Passed on to the crates above.
pub use Rattle.machine_outcomes.specs.Outcomes
pub use Rattle.image_disks.specs.Disks
pub use Rattle.image_disks.specs.Lone
