pub mod Filters
pub mod Zeros
