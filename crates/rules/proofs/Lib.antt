pub mod Steps
pub mod Judging
