pub mod Best
pub mod Items
pub mod Law
pub mod Runs
pub mod Steps
pub mod Walk
pub mod Whole
