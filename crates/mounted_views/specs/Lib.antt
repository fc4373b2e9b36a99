pub mod Views
pub mod Laws
-- Passed on to the crates above.
pub use Rattle.image_replays.specs.MountedImages as Mounting
