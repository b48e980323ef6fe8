pub mod Refusals
pub mod Ranges
pub mod Choices
pub mod Tasks
pub mod Making
pub mod Under
