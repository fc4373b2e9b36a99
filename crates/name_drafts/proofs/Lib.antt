pub mod Fates
pub mod Faults
pub mod Said
pub mod Named
pub mod Done
pub mod Grown
pub mod NewInodes
pub mod InImage
pub mod GroupsSay
pub mod Adds
pub mod Adding
pub mod SeenPaths
-- Passed on to the crates above.
pub use Rattle.name_inserts.proofs.DirectoryForms as Forms
pub use Rattle.name_inserts.proofs.Led
pub use Rattle.path_walks.proofs.Faults as WalkFaults
pub use Rattle.path_walks.proofs.Images
pub use Rattle.path_walks.proofs.Lying
pub use Rattle.path_walks.proofs.Steps
pub use Rattle.path_walks.proofs.Leads
pub use Rattle.path_walks.proofs.Lists
pub use Rattle.path_walks.proofs.Longer
pub use Rattle.path_walks.proofs.Asked
pub use Rattle.path_walks.proofs.Wants
pub use Rattle.path_walks.proofs.Refused
