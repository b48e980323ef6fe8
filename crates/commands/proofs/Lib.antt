pub mod Rows
pub mod Low
pub mod Decoded
pub mod Inverted
