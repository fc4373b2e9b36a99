pub mod Ends
pub mod Calls
pub mod Keeping
pub mod Telling
pub mod Adding
pub mod Laws
-- Passed on to the crates above.
pub use Rattle.lone_answers.specs.Faults
pub use Rattle.logged_answers.specs.Sizes
pub use Rattle.logged_node.specs.Nodes
pub use Rattle.logged_node.specs.Beginning
pub use Rattle.logged_node.specs.declared.node
pub use Rattle.logged_answers.specs.Working
pub use Rattle.logged_node.specs.Ends as LoggedNodeEnds
pub use Rattle.logged_node.specs.declared.ends as logged_node_ends
pub use Rattle.logged_node.specs.Leaving
pub use Rattle.lone_answers.specs.Calls as LoneAnswersCalls
pub use Rattle.lone_answers.specs.Reading
