pub mod Replays
pub mod Marking
pub mod Laws
-- Passed on to the crates above.
pub use Rattle.image_mount.specs.Mounted as MountedImages
pub use Rattle.replay_looks.specs.declared.faults as look_faults
