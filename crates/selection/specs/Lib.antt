pub mod Limits
pub mod Selections
pub mod Candidates
pub mod Answers
pub mod Running
pub mod Linked
