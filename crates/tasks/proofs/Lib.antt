pub mod Fits
pub mod Words
pub mod Answering
pub mod Walks
