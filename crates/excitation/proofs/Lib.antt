pub mod Bounds
pub mod Histories
pub mod Parts
pub mod Values
