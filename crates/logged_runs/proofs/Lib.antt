pub mod Starting
pub mod Staying
pub mod Naming
pub mod Upto
pub mod Noting
pub mod Numbers
pub mod Lasting
pub mod Losing
pub mod Machine
pub mod Counting
pub mod Mounted
pub mod KeptRight
pub mod Fronts
pub mod Runs
pub mod Endings
pub mod Laws
pub mod FencedHeads
-- Passed on to the crates above.
pub use Rattle.logged_steps.proofs.Telling as Telling
pub use Rattle.logged_steps.proofs.Histories as Histories
