pub mod Joins
pub mod Weights
pub mod Ordered
pub mod Measuring
